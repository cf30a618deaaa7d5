use Rattle.std.proofs.Common.{◌≡◌, ℕ, ◌+◌, ◌<◌, ◌≤◌, length, get_or}
use Rattle.graph_power.proofs.counting.add.Given as goal

abbrev pub invariant-loop-place : goal.invariant-loop-place
invariant-loop-place l = record {
  size : length l.sums ≡ length l.fn.sums;
  done : (k : ℕ) → k < l.place → get_or l.sums k 0 ≡ get_or l.fn.sums k 0 + get_or l.more k 0;
  rest : (k : ℕ) → l.place ≤ k → get_or l.sums k 0 ≡ get_or l.fn.sums k 0;
}

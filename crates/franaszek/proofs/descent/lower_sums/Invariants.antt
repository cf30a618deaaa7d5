use Rattle.std.proofs.Common.{◌≡◌, ℕ, ◌+◌, ◌*◌, ◌<◌, ◌≤◌, length, get_or}
use Rattle.label_graphs.specs.Matrix.{entry_at}
use Rattle.franaszek.proofs.descent.lower_sums.Given as goal

abbrev pub invariant-loop-from : goal.invariant-loop-from
invariant-loop-from l = record {
  size : length l.sums ≡ length l.matrix;
  done : (k : ℕ) → k < l.from → get_or l.sums k 0 + entry_at l.matrix k l.state * l.fall ≡ get_or l.fn.sums k 0;
  rest : (k : ℕ) → l.from ≤ k → get_or l.sums k 0 ≡ get_or l.fn.sums k 0;
}

use Rattle.std.proofs.Common.{◌≡◌, ◌+◌, ◌<◌, ◌≤◌, length, ℕ, get_or}
use Rattle.block_codec.specs.Decoding.{block_of}
use Rattle.block_codec.proofs.block_decoder.move_in.Given as goal

abbrev pub invariant-loop-i : goal.invariant-loop-i
invariant-loop-i l = record {
  count : length l.window ≡ length l.fn.window;
  moved : (k : ℕ) → k < l.i → get_or l.window k (block_of 0) ≡ get_or l.fn.window (k + 1) (block_of 0);
  rest : (k : ℕ) → l.i ≤ k → get_or l.window k (block_of 0) ≡ get_or l.fn.window k (block_of 0);
}

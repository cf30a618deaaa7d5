use Rattle.std.proofs.Common.{◌≡◌, ◌<◌, ℕ, length, get_or}
use Rattle.code_check.proofs.reader.MoveTable.of_empty_word.Given as goal

abbrev pub invariant-loop-state : goal.invariant-loop-state
invariant-loop-state l = record {
  size : length l.states.items ≡ l.state;
  each : (k : ℕ) → k < l.state → get_or l.states.items k 0 ≡ k;
}

use Rattle.std.proofs.Common.{ℕ, ◌-◌, ◌<◌, ◌≤◌, length, get_or}
use Rattle.code_check.specs.inside.ByBlock.{no_word}
use Rattle.code_check.proofs.meets.first_not_before.Given as goal

abbrev pub invariant-loop-at : goal.invariant-loop-at
invariant-loop-at l = record {
  later : l.from ≤ l.at;
  inside : l.at ≤ length l.list;
  front : (k : ℕ) → l.from ≤ k → k < l.at → (get_or l.list k no_word).block.value < l.block.value;
}

abbrev pub decreases-loop-at : goal.decreases-loop-at
decreases-loop-at l = length l.list - l.at

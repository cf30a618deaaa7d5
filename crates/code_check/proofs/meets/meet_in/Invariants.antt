use Rattle.std.proofs.Common.{ℕ, ◌<◌, ◌≤◌, length, get_or}
use Rattle.code_check.specs.inside.ByBlock.{no_word}
use Rattle.code_check.specs.inside.Meets.{Meets}
use Rattle.code_check.proofs.meets.meet_in.Given as goal

abbrev pub invariant-loop-item : goal.invariant-loop-item
invariant-loop-item l = record {
  inside : l.from ≤ length l.second;
  front : (k m : ℕ) → k < l.from → l.item-index ≤ m → m < length l.first
      → (get_or l.second k no_word).block.value < (get_or l.first m no_word).block.value;
  none : (m k : ℕ) → m < l.item-index → k < length l.second
      → Meets l.arcs l.states l.pairs (get_or l.first m no_word) (get_or l.second k no_word) → ⊥;
}

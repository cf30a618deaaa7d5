use Rattle.std.proofs.Common.{◌≡◌, ◌/◌, ◌%◌, map, take}
use Rattle.code_check.proofs.ambiguity.words_of.Given as goal

abbrev pub invariant-loop-label : goal.invariant-loop-label
invariant-loop-label l = record {
  first : l.first.items ≡ map (λ label. label / l.words) (take l.label-index l.labels);
  second : l.second.items ≡ map (λ label. label % l.words) (take l.label-index l.labels);
}

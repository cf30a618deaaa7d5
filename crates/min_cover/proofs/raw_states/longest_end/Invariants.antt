use Rattle.std.proofs.Common.{◌≡◌, drop}
use Rattle.constraint_spec.specs.RawStateOf.{longest_match}
use Rattle.min_cover.proofs.raw_states.longest_end.Given as goal

abbrev pub invariant-loop-at : goal.invariant-loop-at
invariant-loop-at l = longest_match l.forbid (drop l.at l.word) ≡ longest_match l.forbid l.word

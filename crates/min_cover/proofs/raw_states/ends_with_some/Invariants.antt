use Rattle.std.proofs.Common.{◌≡◌, take, false, nat_eq}
use Rattle.std.specs.List.{list_any, ends_with}
use Rattle.min_cover.proofs.raw_states.ends_with_some.Given as goal

abbrev pub invariant-loop-forbidden : goal.invariant-loop-forbidden
invariant-loop-forbidden l = list_any (ends_with nat_eq l.word) (take l.forbidden-index l.forbid) ≡ false

use Rattle.std.proofs.Common.{take}
use Rattle.std.specs.Prelude.{All}
use Rattle.constraint_spec.specs.Word.{IsFactor}
use Rattle.constraint_model.proofs.forbidden.avoids.Given as goal

abbrev pub invariant-loop-forbidden : goal.invariant-loop-forbidden
invariant-loop-forbidden l = All (λ forbidden. IsFactor forbidden l.word → ⊥) (take l.forbidden-index l.forbid)

-- The code's exclusive or is the sum.
use Rattle.std.proofs.Common.{refl}
use Rattle.gf256.specs.Field.{plus}
use Rattle.gf256.proofs.Gf.add.Goals as goal

pub returns-clause-value : goal.returns-clause-value
unfolding plus
returns-clause-value c = refl

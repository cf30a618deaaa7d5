-- What a design begins with is told by the constraint, the rate and the bound.
use Rattle.std.proofs.Common.{ℕ}
use Rattle.constraint_spec.specs.Constraint.{ConstraintData}
use Rattle.command_steps.specs.Step.{IsSingle}
use Rattle.steps.proofs.StepLaws.{then_is_single, gives_is_single}
use Rattle.design_steps.specs.Begun.{BeginsWith}
use Rattle.design_steps.proofs.CoverLaws.{cover_is_single}
use Rattle.design_steps.proofs.MemoryLaws.{memory_is_single}
use Rattle.design_steps.proofs.PowerLaws.{power_is_single}
use Rattle.design_steps.proofs.SinkLaws.{sink_is_single}
use Rattle.design_steps.proofs.VectorLaws.{vector_is_single}

pub begun_is_single : (c : ConstraintData) (p q bound : ℕ) → IsSingle (BeginsWith c p q bound)
unfolding BeginsWith
begun_is_single c p q bound = λ files. search (then_is_single, cover_is_single, memory_is_single, power_is_single, vector_is_single, sink_is_single, gives_is_single) depth 12

-- The constraint of runs of 0s alone.
use Rattle.std.specs.Prelude.{ℕ, Option, []}
use Rattle.constraint_spec.specs.Constraint.{ConstraintData}

abbrev pub run_length : ℕ → ℕ → Option ℕ → ConstraintData
run_length alphabet d k = record { alphabet = alphabet; d = d; k = k; forbid = []; states = 0; edges = [] }

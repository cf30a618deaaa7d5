-- The constraint as a machine on raw states.
use Rattle.std.specs.Prelude.{ℕ, Option, Some, None, if◌then◌else◌}
use Rattle.constraint_spec.specs.Constraint.{ConstraintData}
use Rattle.constraint_spec.specs.RawState.{RawState}
use Rattle.constraint_spec.specs.RawStateOf.{next_raw_state, may_follow}

-- the next raw state, where the symbol may follow
abbrev pub step_raw : ConstraintData → RawState → ℕ → Option RawState
step_raw c raw symbol = if may_follow c raw symbol then Some (next_raw_state c raw symbol) else None

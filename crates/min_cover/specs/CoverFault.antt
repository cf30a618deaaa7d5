-- Why the cover of a constraint isn't given.
use Rattle.std.specs.Prelude.{◌≡◌, ◌<◌}
use Rattle.constraint_spec.specs.Constraint.{ConstraintData}
use Rattle.min_cover.specs.declared.fault.CoverFault.{CoverFault}
use Rattle.min_cover.specs.declared.fault.CoverFault.TheVariants.{RawStates, CoverStates, NoMemory}
use Rattle.min_cover.specs.StateCounts.{HaveRawStates, HasCoverOf}

-- More than 4,096 raw states of words exist; or these are no more, and the cover has the told states, more than
-- 256; or memory was wanted.
abbrev pub IsCoverFault : ConstraintData → CoverFault → Type 0
IsCoverFault c (RawStates count) = HaveRawStates c 4097 × (count ≡ 4097)
IsCoverFault c (CoverStates count) = (256 < count) × HasCoverOf c count × (HaveRawStates c 4097 → ⊥)
IsCoverFault c NoMemory = Unit {0}

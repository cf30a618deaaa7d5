-- Why a code isn't a checked one, or isn't checked.
use Rattle.std.specs.Prelude.{ℕ, ◌≤◌, List, length}
use Rattle.constraint_spec.specs.Constraint.{ConstraintData, IsWordOf}
use Rattle.label_graphs.specs.Graph.{EdgeData}
use Rattle.label_graphs.specs.Cover.{IsCoverOf}
use Rattle.min_cover.specs.StateCounts.{HaveRawStates}
use Rattle.min_cover.specs.CoverFault.{IsCoverFault}
use Rattle.min_cover.specs.declared.fault.CoverFault.{CoverFault}
use Rattle.min_cover.specs.declared.fault.CoverFault.TheVariants as covers
use Rattle.code_spec.specs.Code.{CodeData, IsDataWords}
use Rattle.code_spec.specs.Checked.{WritesWord}
use Rattle.code_spec.specs.Witness.{IsLeastOutside, IsLeastAmbiguous}
use Rattle.code_check.specs.declared.fault.CheckFault.{CheckFault}
use Rattle.code_check.specs.declared.fault.CheckFault.TheVariants.{RawStates, CoverStates, OutOfConstraint, Ambiguous, NoMemory}

-- The constraint is within the limits: at most 4,096 raw states of words exist, and its cover has at most 256 states.
pub record IsWithinLimits (c : ConstraintData) : Type 0 where
  pub raw_states : HaveRawStates c 4097 → ⊥
  pub cover : List (List EdgeData)
  pub few : length cover ≤ 256
  pub is : IsCoverOf (IsWordOf c) cover

-- all data words write words of the constraint from state 0
abbrev pub WritesWords : CodeData → Type 0
WritesWords c = (words : List ℕ) → IsDataWords c words → WritesWord c words

-- The first that holds: a limit is exceeded, as the cover's fault tells; some data words write no word of the constraint,
-- and these are the least; two walks are ambiguous, and these are the least. Or memory was wanted.
abbrev pub IsCheckFault : CodeData → CheckFault → Type 0
IsCheckFault c (RawStates count) = IsCoverFault c.constraint (covers.RawStates count)
IsCheckFault c (CoverStates count) = IsCoverFault c.constraint (covers.CoverStates count)
IsCheckFault c (OutOfConstraint words) = IsWithinLimits c.constraint × IsLeastOutside c words
IsCheckFault c (Ambiguous first second) =
    IsWithinLimits c.constraint × WritesWords c × IsLeastAmbiguous c c.past c.ahead first second
IsCheckFault c NoMemory = Unit {0}

-- a fault of the cover as one of the check
abbrev pub of_cover : CoverFault → CheckFault
of_cover (covers.RawStates count) = RawStates count
of_cover (covers.CoverStates count) = CoverStates count
of_cover covers.NoMemory = NoMemory

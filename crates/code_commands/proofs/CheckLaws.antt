-- What checking a code says of the step that it is, and that the step has one outcome.
use Rattle.std.proofs.Common.{◌≡◌, length, Ok, Err, inl, inr, sym, ◌∙◌}
use Rattle.std.specs.Prelude.{◌≢◌}
use Rattle.constraint_spec.specs.Constraint.{IsWordOf}
use Rattle.label_graphs.specs.Graph.{HasEdge}
use Rattle.label_graphs.proofs.Unique.{one-cover}
use Rattle.code_spec.specs.Code.{CodeData}
use Rattle.code_spec.specs.Checked.{IsCheckedCode}
use Rattle.code_spec.proofs.WitnessLaws.{separates_unless_ambiguous, least_is_one, outside_is_one}
use Rattle.code_check.specs.declared.fault.CheckFault.{CheckFault}
use Rattle.code_check.specs.declared.fault.CheckFault.TheVariants as faults
use Rattle.code_check.specs.CheckFault.{IsCheckFault, IsWithinLimits}
use Rattle.code_check.proofs.OneAnswer.{OneCover, checked_has_none, one_fault}
use Rattle.command_steps.specs.declared.status.CodeFault.TheVariants.{OutOfConstraint, Ambiguous}
use Rattle.command_steps.specs.declared.status.Limit.TheVariants.{RawStates, CoverStates}
use Rattle.command_steps.specs.declared.status.Status.{Status}
use Rattle.command_steps.specs.Step.{IsSingle}
use Rattle.command_steps.specs.Promise.{IsRefusedAlone, Decides}
use Rattle.steps.specs.Decides.{memory_alone}
use Rattle.steps.proofs.StepLaws.{reads_value, reads_fault, reads_is_single}
use Rattle.command_steps.proofs.StepLaws.{too_large_is_alone, code_refused_is_alone}
use Rattle.code_commands.specs.CheckedCodes.{check_status, CheckedOf}

-- ---- a code has one answer

one_cover : OneCover
one_cover c rows others = one-cover (IsWordOf c) (length rows) (length others) (HasEdge rows) (HasEdge others)

abbrev IsRight : CodeData → CodeData → Type 0
IsRight c checked = (checked ≡ c) × IsCheckedCode c × IsWithinLimits c.constraint

abbrev IsFault : CodeData → CheckFault → Type 0
IsFault c fault = IsCheckFault c fault × (fault ≢ faults.NoMemory)

right_once : (c a b : CodeData) → IsRight c a → IsRight c b → a ≡ b
right_once c a b here there = here.0 ∙ sym there.0

fault_once : (c : CodeData) (a b : CheckFault) → IsFault c a → IsFault c b → a ≡ b
fault_once c a b here there = elim (one_fault one_cover outside_is_one least_is_one c a b here.0 there.0) [
  | inl none ↦ absurd (here.1 none)
  | inr rest ↦ elim rest [ inl none ↦ absurd (there.1 none) | inr same ↦ same ]
]

right_or_wrong : (c checked : CodeData) (fault : CheckFault) → IsRight c checked → IsFault c fault → ⊥
right_or_wrong c checked fault right wrong = wrong.1 (checked_has_none one_cover separates_unless_ambiguous c fault right.1 right.2 wrong.0)

pub checked_is_single : (c : CodeData) → IsSingle (CheckedOf c)
checked_is_single c = λ files. reads_is_single _ (IsRight c) (IsFault c) check_status (right_once c) (fault_once c) (right_or_wrong c)

-- ---- what the checker answers

pub code_is_right : (c checked : CodeData) → checked ≡ c → IsCheckedCode c → IsWithinLimits c.constraint → Decides (λ (d : CodeData). d) (CheckedOf c) (Ok checked)
code_is_right c checked same is within = reads_value _ _ (IsRight c) (IsFault c) check_status (λ (d : CodeData). d) checked (same, is, within)

wrong_for : (c : CodeData) (fault : CheckFault) → IsCheckFault c fault → fault ≢ faults.NoMemory → IsRefusedAlone (check_status fault) → Decides (λ (d : CodeData). d) (CheckedOf c) (Err (check_status fault))
wrong_for c fault is other refusal = reads_fault _ _ (IsRight c) (IsFault c) check_status (λ (d : CodeData). d) fault (is, other) refusal

fault_told : (c : CodeData) (fault : CheckFault) → IsCheckFault c fault → Decides (λ (d : CodeData). d) (CheckedOf c) (Err (check_status fault))
fault_told c (faults.RawStates count) is = wrong_for c (faults.RawStates count) is (λ e. absurd cc) (too_large_is_alone (RawStates count))
fault_told c (faults.CoverStates count) is = wrong_for c (faults.CoverStates count) is (λ e. absurd cc) (too_large_is_alone (CoverStates count))
fault_told c (faults.OutOfConstraint words) is = wrong_for c (faults.OutOfConstraint words) is (λ e. absurd cc) (code_refused_is_alone (OutOfConstraint words))
fault_told c (faults.Ambiguous first second) is = wrong_for c (faults.Ambiguous first second) is (λ e. absurd cc) (code_refused_is_alone (Ambiguous first second))
fault_told c faults.NoMemory is = memory_alone

pub code_is_wrong : (c : CodeData) (fault : CheckFault) (s : Status) → IsCheckFault c fault → s ≡ check_status fault → Decides (λ (d : CodeData). d) (CheckedOf c) (Err s)
code_is_wrong c fault s is told = rw told (fault_told c fault is)

pub ruleset checks = (code_is_right, code_is_wrong)

-- What reading a constraint file says of the step that it is, and that the step has one outcome.
use Rattle.std.proofs.Common.{◌≡◌, ℕ, List, Result, Ok, Err, sym, ◌∙◌}
use Rattle.std.specs.Prelude.{◌≢◌}
use Rattle.constraint_spec.specs.Constraint.{ConstraintData}
use Rattle.constraint_file_spec.specs.declared.fault.ConstraintFault.{ConstraintFault}
use Rattle.constraint_file_spec.specs.declared.fault.ConstraintFault.TheVariants.{NoMemory}
use Rattle.constraint_file_spec.specs.Listed.{ListedParts}
use Rattle.constraint_file_spec.specs.ConstraintFile.{file_parts, ReadsConstraint}
use Rattle.constraint_file_spec.proofs.Outcomes.{one_outcome}
use Rattle.command_steps.specs.declared.status.Status.TheVariants.{ConstraintRefused}
use Rattle.command_steps.specs.Step.{IsSingle}
use Rattle.command_steps.specs.Promise.{Decides}
use Rattle.steps.proofs.StepLaws.{reads_value, reads_fault, reads_is_single}
use Rattle.command_steps.proofs.StepLaws.{constraint_refused_is_alone}
use Rattle.design_commands.specs.ConstraintFiles.{ConstraintOf}

one_constraint : (bytes : List ℕ) (c e : ConstraintData) → ReadsConstraint bytes (Ok c) → ReadsConstraint bytes (Ok e) → c ≡ e
one_constraint bytes c e a b =
    let same = one_outcome bytes (Ok c) (Ok e) (λ no. absurd cc) (λ no. absurd cc) a b in
    let is : c ≡ e = cc in is

abbrev refused : ConstraintFault → Result ListedParts ConstraintFault
refused fault = Err fault

one_fault : (bytes : List ℕ) (fault other : ConstraintFault) → file_parts bytes ≡ Err fault → file_parts bytes ≡ Err other → fault ≡ other
one_fault bytes fault other a b =
    let same : refused fault ≡ refused other = sym a ∙ b in
    let is : fault ≡ other = cc in is

not_both : (bytes : List ℕ) (c : ConstraintData) (fault : ConstraintFault) → ReadsConstraint bytes (Ok c) → file_parts bytes ≡ Err fault → ⊥
not_both bytes c fault a b = absurd (let p = sym a.1 ∙ b in cc)

pub constraint_is_single : (bytes : List ℕ) → IsSingle (ConstraintOf bytes)
constraint_is_single bytes =
    λ files. reads_is_single _ (λ c. ReadsConstraint bytes (Ok c)) (λ fault. file_parts bytes ≡ Err fault) ConstraintRefused (one_constraint bytes) (one_fault bytes) (not_both bytes)

pub constraint_is_read : (bytes : List ℕ) (c : ConstraintData) → ReadsConstraint bytes (Ok c) → Decides (λ (c : ConstraintData). c) (ConstraintOf bytes) (Ok c)
constraint_is_read bytes c is = reads_value _ _ (λ c. ReadsConstraint bytes (Ok c)) (λ fault. file_parts bytes ≡ Err fault) ConstraintRefused (λ (c : ConstraintData). c) c is

pub constraint_is_refused : (bytes : List ℕ) (fault : ConstraintFault) → fault ≢ NoMemory → ReadsConstraint bytes (Err fault) → Decides (λ (c : ConstraintData). c) (ConstraintOf bytes) (Err (ConstraintRefused fault))
constraint_is_refused bytes fault other is =
    reads_fault _ _ (λ c. ReadsConstraint bytes (Ok c)) (λ fault. file_parts bytes ≡ Err fault) ConstraintRefused (λ (c : ConstraintData). c) fault (is other) (constraint_refused_is_alone fault)

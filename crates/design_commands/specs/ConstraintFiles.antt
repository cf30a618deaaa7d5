-- The constraint of a constraint file, as steps.
use Rattle.std.specs.Prelude.{◌≡◌, ℕ, ◌^◌, List, Ok, Err}
use Rattle.constraint_spec.specs.Constraint.{ConstraintData}
use Rattle.constraint_file_spec.specs.ConstraintFile.{file_parts, ReadsConstraint}
use Rattle.steps.specs.Step.{◌>>=◌, Reads}
use Rattle.command_steps.specs.declared.status.Status.TheVariants.{ConstraintRefused}
use Rattle.command_steps.specs.Inputs.{Input, whole_input}
use Rattle.command_steps.specs.Step.{Step, InputAt}

-- how many bytes a constraint file may have
abbrev pub constraint_limit : ℕ
constraint_limit = 2 ^ 20

-- a constraint file, the first name behind the command
abbrev pub constraint_input : List ℕ → Input
constraint_input name = whole_input name 1 constraint_limit

-- the constraint that the bytes list, or the first refusal that holds
abbrev pub ConstraintOf : List ℕ → Step ConstraintData
ConstraintOf bytes = Reads (λ c. ReadsConstraint bytes (Ok c)) (λ fault. file_parts bytes ≡ Err fault) ConstraintRefused

-- the constraint of a constraint file
unfoldable pub ConstraintAt : List ℕ → Step ConstraintData
ConstraintAt name = do
  bytes ← InputAt name 1 constraint_limit
  ConstraintOf bytes

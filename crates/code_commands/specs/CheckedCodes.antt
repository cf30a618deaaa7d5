-- Codes that are checked before they are used.
use Rattle.std.specs.Prelude.{◌≡◌, ◌≢◌, ℕ, List}
use Rattle.code_spec.specs.Code.{CodeData}
use Rattle.code_spec.specs.Checked.{IsCheckedCode}
use Rattle.code_check.specs.declared.fault.CheckFault.{CheckFault}
use Rattle.code_check.specs.declared.fault.CheckFault.TheVariants as faults
use Rattle.code_check.specs.CheckFault.{IsCheckFault, IsWithinLimits}
use Rattle.command_steps.specs.declared.status.CodeFault.TheVariants.{OutOfConstraint, Ambiguous}
use Rattle.command_steps.specs.declared.status.Limit.TheVariants.{RawStates, CoverStates}
use Rattle.command_steps.specs.declared.status.Status.{Status}
use Rattle.command_steps.specs.declared.status.Status.TheVariants.{TooLarge, CodeRefused, NoMemory}
use Rattle.steps.specs.Step.{◌>>=◌, Reads}
use Rattle.command_steps.specs.Step.{Step}
use Rattle.code_commands.specs.CodeFiles.{CodeAt}

abbrev pub check_status : CheckFault → Status
check_status (faults.RawStates count) = TooLarge (RawStates count)
check_status (faults.CoverStates count) = TooLarge (CoverStates count)
check_status (faults.OutOfConstraint words) = CodeRefused (OutOfConstraint words)
check_status (faults.Ambiguous first second) = CodeRefused (Ambiguous first second)
check_status faults.NoMemory = NoMemory

-- the code, where it is a checked one; or the first reason against it
abbrev pub CheckedOf : CodeData → Step CodeData
CheckedOf c = Reads (λ checked. (checked ≡ c) × IsCheckedCode c × IsWithinLimits c.constraint) (λ fault. IsCheckFault c fault × (fault ≢ faults.NoMemory)) check_status

-- the checked code of a code file, the first name behind the command
unfoldable pub CheckedAt : List ℕ → Step CodeData
CheckedAt name = do
  code ← CodeAt name
  CheckedOf code

-- What reading a code file says of the step that it is.
use Rattle.std.proofs.Common.{ℕ, List, Ok, Err}
use Rattle.code_spec.specs.Code.{CodeData}
use Rattle.code_text_spec.specs.CodeText.{IsCodeText}
use Rattle.code_text_spec.specs.LineRules.{IsWrongLine}
use Rattle.command_steps.specs.declared.status.CodeFault.TheVariants.{BadCode}
use Rattle.command_steps.specs.declared.status.Status.TheVariants.{CodeRefused}
use Rattle.command_steps.specs.Promise.{Decides}
use Rattle.steps.proofs.StepLaws.{reads_value, reads_fault}
use Rattle.command_steps.proofs.StepLaws.{code_refused_is_alone}
use Rattle.code_commands.specs.CodeFiles.{CodeOf}

pub code_is_read : (bytes : List ℕ) (code : CodeData) → IsCodeText bytes code → Decides (λ (c : CodeData). c) (CodeOf bytes) (Ok code)
code_is_read bytes code is = reads_value _ _ (IsCodeText bytes) (IsWrongLine bytes) (λ line. CodeRefused (BadCode line)) (λ (c : CodeData). c) code is

pub line_is_wrong : (bytes : List ℕ) (line : ℕ) → IsWrongLine bytes line → Decides (λ (c : CodeData). c) (CodeOf bytes) (Err (CodeRefused (BadCode line)))
line_is_wrong bytes line is =
    reads_fault _ _ (IsCodeText bytes) (IsWrongLine bytes) (λ line. CodeRefused (BadCode line)) (λ (c : CodeData). c) line is (code_refused_is_alone (BadCode line))

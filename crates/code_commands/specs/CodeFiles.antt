-- The code of a code file, as steps.
use Rattle.std.specs.Prelude.{ℕ, List}
use Rattle.code_spec.specs.Code.{CodeData}
use Rattle.code_text_spec.specs.CodeText.{IsCodeText}
use Rattle.code_text_spec.specs.LineRules.{IsWrongLine}
use Rattle.steps.specs.Step.{◌>>=◌, Reads}
use Rattle.command_steps.specs.declared.status.CodeFault.TheVariants.{BadCode}
use Rattle.command_steps.specs.declared.status.Status.TheVariants.{CodeRefused}
use Rattle.command_steps.specs.Inputs.{Input, whole_input}
use Rattle.command_steps.specs.Step.{Step, InputAt}
use Rattle.code_commands.specs.Limits.{code_limit}

-- a code file, the first name behind the command
abbrev pub code_input : List ℕ → Input
code_input name = whole_input name 1 code_limit

-- the code that the bytes are the text of, or the number of the first line that breaks its rule
abbrev pub CodeOf : List ℕ → Step CodeData
CodeOf bytes = Reads (IsCodeText bytes) (IsWrongLine bytes) (λ line. CodeRefused (BadCode line))

-- the code of a code file
unfoldable pub CodeAt : List ℕ → Step CodeData
CodeAt name = do
  bytes ← InputAt name 1 code_limit
  CodeOf bytes

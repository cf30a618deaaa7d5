-- `check CODE`: whether a code keeps its constraint, and its window tells its data words.
use Rattle.std.specs.Prelude.{ℕ, List, [], ◌∷◌, length, codes}
use Rattle.std.specs.Fmt.{decimal}
use Rattle.code_spec.specs.Code.{CodeData}
use Rattle.code_text_spec.specs.CodeText.{spaced, text_of}
use Rattle.steps.specs.Step.{◌>>=◌, Gives}
use Rattle.command_steps.specs.Step.{Step}
use Rattle.command_steps.specs.Answer.{Answer, prints}
use Rattle.command_steps.specs.Inputs.{Input}
use Rattle.code_commands.specs.CodeFiles.{code_input}
use Rattle.code_commands.specs.CheckedCodes.{CheckedAt}

-- the word behind `check`: a code file
pub record CheckWords : Type 0 where
  pub code : List ℕ

abbrev pub check_lines : CodeData → List (List ℕ)
check_lines c =
    spaced (codes "states") (decimal (length c.rows))
    ∷ spaced (codes "rate") (spaced (decimal c.p) (decimal c.q))
    ∷ spaced (codes "window") (spaced (decimal c.past) (decimal c.ahead))
    ∷ codes "ok" ∷ []

unfoldable pub check_row : CheckWords → Step Answer
check_row words = do
  code ← CheckedAt words.code
  Gives (prints (text_of (check_lines code)))

abbrev pub check_inputs : CheckWords → List Input
check_inputs words = code_input words.code ∷ []

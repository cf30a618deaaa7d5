-- `encode CODE DATA TEXT`: the plain channel text of a data file.
use Rattle.std.specs.Prelude.{ℕ, ◌≤◌, List, [], ◌∷◌, ◌++◌, length, codes, Option, Some, None, ◌||◌, if◌then◌else◌}
use Rattle.std.specs.Str.{bytes_eq}
use Rattle.std.specs.Fmt.{decimal}
use Rattle.code_spec.specs.Code.{CodeData}
use Rattle.code_spec.specs.PlainText.{data_words, plain_text}
use Rattle.command_steps.specs.declared.status.Status.TheVariants.{FileTooLong}
use Rattle.steps.specs.Step.{◌>>=◌, Gives, Needs}
use Rattle.command_steps.specs.Step.{Step, InputAt}
use Rattle.command_steps.specs.Answer.{Answer, writes}
use Rattle.code_commands.specs.Limits.{data_limit, text_limit}
use Rattle.command_steps.specs.Inputs.{Input, whole_input}
use Rattle.code_commands.specs.CodeFiles.{code_input}
use Rattle.code_commands.specs.CheckedCodes.{CheckedAt}

-- the words behind `encode`: a code file, a data file, and the text file that is written
pub record EncodeWords : Type 0 where
  pub code : List ℕ
  pub source : List ℕ
  pub text : List ℕ

-- the text is none of the files that are read
abbrev pub encode_words : List ℕ → List ℕ → List ℕ → Option EncodeWords
encode_words code source text =
    if bytes_eq text code || bytes_eq text source then None else Some (record { code = code; source = source; text = text })

-- how many blocks the text has, one for each data word, lead-in and lead-out included
abbrev pub blocks_line : CodeData → List ℕ → List ℕ
blocks_line code file = codes "blocks " ++ decimal (length (data_words code file)) ++ 10 ∷ []

unfoldable pub encode_row : EncodeWords → Step Answer
encode_row words = do
  code ← CheckedAt words.code
  file ← InputAt words.source 2 data_limit
  _ ← Needs (length (plain_text code file) ≤ text_limit) (FileTooLong text_limit)
  Gives (writes (plain_text code file) (blocks_line code file))

abbrev pub encode_inputs : EncodeWords → List Input
encode_inputs words = code_input words.code ∷ whole_input words.source 2 data_limit ∷ []

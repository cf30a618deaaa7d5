-- The forms of the command line: a constructor for each command, with its words, and its row, its input files and its
-- output.
use Rattle.std.specs.Prelude.{ℕ, List, [], ◌∷◌, Option, Some, None, option_map, codes, if◌then◌else◌}
use Rattle.std.specs.Str.{bytes_eq}
use Rattle.command_steps.specs.Step.{Step}
use Rattle.command_steps.specs.Answer.{Answer}
use Rattle.command_steps.specs.Inputs.{Input}
use Rattle.code_commands.specs.Check.{CheckWords, check_row, check_inputs}
use Rattle.code_commands.specs.Encode.{EncodeWords, encode_words, encode_row, encode_inputs}
use Rattle.code_commands.specs.Decode.{DecodeWords, decode_words, decode_row, decode_inputs}
use Rattle.design_commands.specs.Words.{ExplainWords, explain_words}
use Rattle.design_commands.specs.Explain.{explain_row, explain_inputs}

pub data Form : Type 0 where
  check : (words : CheckWords) → Form
  explain : (words : ExplainWords) → Form
  encode : (words : EncodeWords) → Form
  decode : (words : DecodeWords) → Form

-- a command that makes the last of three files of the others
unfoldable pub three_files_form : List ℕ → List ℕ → List ℕ → List ℕ → Option Form
three_files_form command code source target =
    if bytes_eq command (codes "encode") then option_map encode (encode_words code source target)
    else if bytes_eq command (codes "decode") then option_map decode (decode_words code source target)
    else None

-- `check CODE`; `encode CODE DATA TEXT` and `decode CODE TEXT DATA`; `explain CONSTRAINT P Q BOUND`
abbrev pub form_of : List (List ℕ) → Option Form
form_of (command ∷ code ∷ []) = if bytes_eq command (codes "check") then Some (check (record { code = code })) else None
form_of (command ∷ code ∷ source ∷ target ∷ []) = three_files_form command code source target
form_of (command ∷ constraint ∷ p ∷ q ∷ bound ∷ []) =
    if bytes_eq command (codes "explain") then option_map explain (explain_words constraint p q bound) else None
form_of words = None

-- the row of steps
abbrev pub row_of : Form → Step Answer
row_of (check words) = check_row words
row_of (explain words) = explain_row words
row_of (encode words) = encode_row words
row_of (decode words) = decode_row words

-- the input files, in the order in which they are read
abbrev pub inputs_of : Form → List Input
inputs_of (check words) = check_inputs words
inputs_of (explain words) = explain_inputs words
inputs_of (encode words) = encode_inputs words
inputs_of (decode words) = decode_inputs words

-- the name of the file that the command writes; the empty name where it writes none
abbrev pub output_of : Form → List ℕ
output_of (check words) = []
output_of (explain words) = []
output_of (encode words) = words.text
output_of (decode words) = words.target

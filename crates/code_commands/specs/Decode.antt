-- `decode CODE TEXT DATA`: the data file of a plain channel text.
use Rattle.std.specs.Prelude.{ℕ, List, [], ◌∷◌, ◌++◌, length, codes, Option, Some, None, Ok, Err, ◌||◌, if◌then◌else◌}
use Rattle.std.specs.Str.{bytes_eq}
use Rattle.std.specs.Fmt.{decimal}
use Rattle.code_spec.specs.declared.fault.EndFault.{EndFault}
use Rattle.code_spec.specs.declared.fault.EndFault.TheVariants as ends
use Rattle.code_spec.specs.Code.{CodeData}
use Rattle.code_spec.specs.PlainReading.{ReadsText}
use Rattle.command_steps.specs.declared.status.ChannelFault.{ChannelFault}
use Rattle.command_steps.specs.declared.status.ChannelFault.TheVariants as faults
use Rattle.command_steps.specs.declared.status.Status.TheVariants.{ChannelRefused}
use Rattle.steps.specs.Step.{◌>>=◌, Gives, Reads}
use Rattle.command_steps.specs.Step.{Step, InputAt}
use Rattle.command_steps.specs.Answer.{Answer, writes}
use Rattle.code_commands.specs.Limits.{text_limit}
use Rattle.command_steps.specs.Inputs.{Input}
use Rattle.code_commands.specs.CodeFiles.{code_input}
use Rattle.code_commands.specs.CheckedCodes.{CheckedAt}

-- the words behind `decode`: a code file, a text file, and the data file that is written
pub record DecodeWords : Type 0 where
  pub code : List ℕ
  pub text : List ℕ
  pub target : List ℕ

-- the data file is none of the files that are read
abbrev pub decode_words : List ℕ → List ℕ → List ℕ → Option DecodeWords
decode_words code text target =
    if bytes_eq target code || bytes_eq target text then None else Some (record { code = code; text = text; target = target })

abbrev pub channel_fault : EndFault → ChannelFault
channel_fault (ends.BadSymbol at) = faults.BadSymbol at
channel_fault (ends.PartBlock count) = faults.PartBlock count
channel_fault (ends.TooShort count) = faults.TooShort count
channel_fault (ends.PartByte count) = faults.PartByte count

-- the file that the text gives under the code, or what is wrong with the text
abbrev pub FileOf : CodeData → List ℕ → Step (List ℕ)
FileOf code text = Reads (λ file. ReadsText code text (Ok file)) (λ fault. ReadsText code text (Err fault)) (λ fault. ChannelRefused (channel_fault fault))

-- the file that a text file gives
abbrev pub FileAt : CodeData → List ℕ → Step (List ℕ)
FileAt code text_name = do
  text ← InputAt text_name 2 text_limit
  FileOf code text

-- how many bytes the file has
abbrev pub bytes_line : List ℕ → List ℕ
bytes_line file = codes "bytes " ++ decimal (length file) ++ 10 ∷ []

-- the answer to the text file under the code
abbrev pub read_row : CodeData → List ℕ → Step Answer
read_row code text_name = do
  file ← FileAt code text_name
  Gives (writes file (bytes_line file))

unfoldable pub decode_row : DecodeWords → Step Answer
decode_row words = do
  code ← CheckedAt words.code
  read_row code words.text

-- a text file, which is read 65,536 bytes at a time
abbrev pub text_input : List ℕ → Input
text_input name = record { name = name; place = 2; limit = text_limit; room = 65536 }

abbrev pub decode_inputs : DecodeWords → List Input
decode_inputs words = code_input words.code ∷ text_input words.text ∷ []

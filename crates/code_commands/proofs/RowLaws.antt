-- The rows of the commands have one outcome over told files.
use Rattle.std.proofs.Common.{ℕ, List, Some}
use Rattle.code_spec.specs.Code.{CodeData}
use Rattle.code_spec.specs.Checked.{IsCheckedCode}
use Rattle.code_text_spec.specs.CodeText.{IsCodeText}
use Rattle.code_text_spec.specs.LineRules.{IsWrongLine}
use Rattle.code_tables.proofs.CodeLaws.{one_code}
use Rattle.code_tables.proofs.OneWay.{one_wrong_line, no_wrong_line}
use Rattle.steps.proofs.StepLaws.{gives_is_single, needs_is_single, reads_is_single, then_is_single, then_is_single_of}
use Rattle.command_steps.specs.declared.status.CodeFault.TheVariants.{BadCode}
use Rattle.command_steps.specs.declared.status.Status.TheVariants.{CodeRefused}
use Rattle.command_steps.specs.Step.{IsSingle}
use Rattle.command_steps.proofs.StepLaws.{input_is_single}
use Rattle.code_commands.specs.CodeFiles.{CodeOf, CodeAt}
use Rattle.code_commands.specs.CheckedCodes.{CheckedAt}
use Rattle.code_commands.specs.Check.{CheckWords, check_row}
use Rattle.code_commands.specs.Encode.{EncodeWords, encode_row}
use Rattle.code_commands.specs.Decode.{DecodeWords, read_row, decode_row}
use Rattle.code_commands.proofs.CheckLaws.{checked_is_single}
use Rattle.code_commands.proofs.DecodeLaws.{file_is_single, checked_is_checked}

code_is_single : (bytes : List ℕ) → IsSingle (CodeOf bytes)
code_is_single bytes = λ files. reads_is_single _ (IsCodeText bytes) (IsWrongLine bytes) (λ line. CodeRefused (BadCode line)) (one_code bytes) (one_wrong_line bytes) (no_wrong_line bytes)

code_file_is_single : (name : List ℕ) → IsSingle (CodeAt name)
unfolding CodeAt
code_file_is_single name = λ files. search (then_is_single, input_is_single, code_is_single)

checked_file_is_single : (name : List ℕ) → IsSingle (CheckedAt name)
unfolding CheckedAt
checked_file_is_single name = λ files. search (then_is_single, code_file_is_single, checked_is_single)

pub check_is_single : (words : CheckWords) → IsSingle (check_row words)
unfolding check_row
check_is_single words = λ files. search (then_is_single, checked_file_is_single, gives_is_single)

pub encode_is_single : (words : EncodeWords) → IsSingle (encode_row words)
unfolding encode_row
encode_is_single words = λ files. search (then_is_single, input_is_single, checked_file_is_single, needs_is_single, gives_is_single) depth 12

-- what stands behind a checked code
read_is_single : (c : CodeData) (text : List ℕ) → IsCheckedCode c → IsSingle (read_row c text)
read_is_single c text checked = λ files. search (then_is_single, input_is_single, file_is_single, gives_is_single)

pub decode_is_single : (words : DecodeWords) → IsSingle (decode_row words)
unfolding decode_row
decode_is_single words = λ files.
    then_is_single_of (Some files) (CheckedAt words.code) (λ c. read_row c words.text) (checked_file_is_single words.code files)
    (λ c at. read_is_single c words.text (checked_is_checked words.code (Some files) c at) files)

pub ruleset rows_are_single = (check_is_single, encode_is_single, decode_is_single)

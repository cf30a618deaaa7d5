-- What reading a code file answers.
use Rattle.std.specs.Prelude.{◌≡◌, ℕ, ◌==◌, Bool, true, not, List, Result, Ok, Err}
use Rattle.std.specs.List.{list_all}
use Rattle.code_spec.specs.Code.{CodeData}
use Rattle.code_text_spec.specs.CodeText.{IsCodeText}
use Rattle.code_text_spec.specs.LineRules.{IsWrongLine}
use Rattle.code_tables.specs.declared.fault.CodeTextFault.{CodeTextFault}
use Rattle.code_tables.specs.declared.fault.CodeTextFault.TheVariants.{BadCode, NoMemory}

-- The code is the one that the bytes are the text of; else the line is the first that breaks its rule.
abbrev pub ReadsCode : List ℕ → Result CodeData CodeTextFault → Type 0
ReadsCode bytes (Ok code) = IsCodeText bytes code
ReadsCode bytes (Err (BadCode n)) = IsWrongLine bytes n
ReadsCode bytes (Err NoMemory) = Unit {0}

abbrev pub no_feed : ℕ → Bool
no_feed byte = not (byte == 10)

-- no byte of the line is a line feed
abbrev pub HasNoFeed : List ℕ → Type 0
HasNoFeed line = list_all no_feed line ≡ true

-- What `encode` writes is a word of the constraint that its code keeps.
use Rattle.std.proofs.Common.{◌≡◌, ℕ, List, Option, Some, None, Ok, refl, sym, ap, ◌∙◌, subst}
use Rattle.std.specs.Prelude.{option_map, IfSome, IsSomeAnd}
use Rattle.shelf_io.specs.Shelf.{Files, OnFile, with_file}
use Rattle.shelf_io.proofs.ShelfLemmas.{same_name}
use Rattle.code_spec.specs.Code.{CodeData}
use Rattle.code_spec.specs.Checked.{IsCheckedCode}
use Rattle.code_spec.specs.PlainText.{data_words, plain_symbols, plain_text}
use Rattle.code_spec.proofs.DataWords.{data_words_below}
use Rattle.code_text_spec.specs.CodeText.{IsCodeText}
use Rattle.command_steps.specs.declared.status.Status.{Status}
use Rattle.steps.specs.Step.{Gives, gives, goes_on, holds, understood}
use Rattle.command_steps.specs.Step.{found}
use Rattle.command_steps.specs.Promise.{Seen}
use Rattle.command_steps.specs.Answer.{Answer, writes, with_output}
use Rattle.command_steps.specs.Printing.{Said}
use Rattle.command_steps.specs.Ends.{Ends}
use Rattle.command_steps.proofs.EndLaws.{done_leaves_output}
use Rattle.code_commands.specs.CheckedCodes.{CheckedAt}
use Rattle.code_commands.specs.CodeFiles.{CodeAt}
use Rattle.code_commands.specs.Encode.{EncodeWords, blocks_line, encode_row}
use Rattle.workbench.specs.Forms.{Form, check, explain, encode, decode, output_of, row_of}
use Rattle.workbench.specs.Channel.{IsTextOfWord, HasTextOfWord, KeepsConstraint}

-- the text of a file under a checked code
checked_text : (c : CodeData) (file : List ℕ) → IsCheckedCode c → IsTextOfWord c.constraint (plain_text c file)
checked_text c file is = record { symbols = plain_symbols c file; word = is.words (data_words c file) (data_words_below c file); digits = refl }

-- an answer of `encode` is the text of some file under the checked code of the code file
record IsEncoded (files : Files) (code : List ℕ) (answer : Answer) : Type 0 where
  bytes : List ℕ
  c : CodeData
  file : List ℕ
  there : files code ≡ Some bytes
  spells : IsCodeText bytes c
  checked : IsCheckedCode c
  output : answer.output ≡ Some (plain_text c file)

given : {A : Type 0} (value : A) (files : Option Files) (answer : A) → Gives {R = Status} value files (Ok answer) → answer ≡ value
given value files answer gives = refl

encoded : (words : EncodeWords) (files : Files) (answer : Answer) → encode_row words (Some files) (Ok answer) → IsEncoded files words.code answer
unfolding encode_row CheckedAt CodeAt
encoded words files answer (goes_on c x (goes_on d y (goes_on bytes z (found b there within) (understood e spells)) (understood f right)) (goes_on file u input (goes_on unit v (holds fits) last))) =
    record {
      bytes = b;
      c = e;
      file = file;
      there = there;
      spells = spells;
      checked = right.1;
      output = ap (λ (a : Answer). a.output) (given (writes (plain_text c file) (blocks_line c file)) (Some files) answer last) ∙ ap (λ (k : CodeData). Some (plain_text k file)) right.0;
    }

-- where the command is done, its answer is there
text_written : (words : EncodeWords) (old new : Seen) (answer : Answer) (files : Option Files) → old.files ≡ files → encode_row words files (Ok answer)
    → new.files ≡ option_map (with_output words.text answer.output) files → HasTextOfWord words.code words.text files new.files
text_written words old new answer None seen at written = tt
text_written words old new answer (Some files) seen at written =
    let text = words.text in
    let is = encoded words files answer at in
    let t = plain_text is.c is.file in
    let whole : new.files ≡ Some (with_file files text t) = written ∙ ap (λ (o : Option (List ℕ)). Some (with_output text o files)) is.output in
    let there : IsSomeAnd (with_file files text t text) (IsTextOfWord is.c.constraint) = rw (same_name text) (checked_text is.c is.file is.checked) in
    subst (λ (o : Option (List ℕ)). IsSomeAnd o (λ bytes. (c : CodeData) × IsCodeText bytes c × OnFile new.files text (λ w. IsSomeAnd w (IsTextOfWord c.constraint)))) (sym is.there)
    (is.c, is.spells, subst (λ (n : Option Files). OnFile n text (λ w. IsSomeAnd w (IsTextOfWord is.c.constraint))) (sym whole) there)

pub keeps_constraint : (form : Form) (old new : Seen) (before after : Said) (status : Status) → Ends (row_of form) (output_of form) old new before after status → KeepsConstraint form old.files new.files status
keeps_constraint (check words) old new before after status ends = tt
keeps_constraint (explain words) old new before after status ends = tt
keeps_constraint (decode words) old new before after status ends = tt
keeps_constraint (encode words) old new before after status ends = λ done.
    let left = done_leaves_output (encode_row words) words.text old new before after status ends done in
    text_written words old new left.0 old.files refl left.1 left.2

-- the same of the form that was asked for
pub channel_keeps : (asked : Option Form) (form : Form) (old new : Seen) (before after : Said) (status : Status) → Some form ≡ asked
    → Ends (row_of form) (output_of form) old new before after status → IfSome asked (λ f. KeepsConstraint f old.files new.files status)
channel_keeps asked form old new before after status same ends =
    subst (λ (o : Option Form). IfSome o (λ f. KeepsConstraint f old.files new.files status)) same (keeps_constraint form old new before after status ends)

-- What the program does with its words.
use Rattle.std.specs.Prelude.{◌≡◌, ℕ, List, Option, Some, None}
use Rattle.command_steps.specs.declared.status.Status.{Status}
use Rattle.command_steps.specs.declared.status.Status.TheVariants.{Usage}
use Rattle.command_steps.specs.Promise.{Seen}
use Rattle.command_steps.specs.Printing.{Said, SaysLine}
use Rattle.command_steps.specs.Ends.{Ends}
use Rattle.workbench.specs.Forms.{Form, form_of, output_of, row_of}

-- a form ends as its row says; words of no form end with `Usage`, change no file, and have its line printed
abbrev pub RunsForm : Option Form → Seen → Seen → Said → Said → Status → Type 0
RunsForm None old new before after status = (status ≡ Usage) × (new ≡ old) × SaysLine Usage before after
RunsForm (Some form) old new before after status = Ends (row_of form) (output_of form) old new before after status

abbrev pub Runs : List (List ℕ) → Seen → Seen → Said → Said → Status → Type 0
Runs words old new before after status = RunsForm (form_of words) old new before after status

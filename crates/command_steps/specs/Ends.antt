-- How a command ends whose row of steps gives an answer: one set of statements for all commands.
use Rattle.std.specs.Prelude.{◌≡◌, ◌≢◌, ◌↔◌, ◌⊎◌, ℕ, List, Option, Some, None, IfSome, String, string_bytes, Result, Ok, Err}
use Rattle.std.specs.declared.alloc.Global.{Global}
use Rattle.shelf_io.specs.Faults.{Counted, Rose}
use Rattle.shelf_io.specs.Shelf.{Files}
use Rattle.command_steps.specs.declared.status.Status.{Status}
use Rattle.command_steps.specs.declared.status.Status.TheVariants.{Done, ShelfFault, SinkFault, NoMemory}
use Rattle.command_steps.specs.Step.{Step}
use Rattle.command_steps.specs.Promise.{Seen}
use Rattle.command_steps.specs.Answer.{Answer, with_output, Shelved}
use Rattle.command_steps.specs.Printing.{Said, Says, SaysFront, SaysLine}

-- the bytes that are left to print, or the status
abbrev pub text_left : Result (String Global) Status → Result (List ℕ) Status
text_left (Ok text) = Ok (string_bytes text)
text_left (Err s) = Err s

-- How a command ends: it was done and its text printed; or done, and only a front printed; or not done, and the
-- line of its status printed.
pub data Ends (row : Step Answer) (name : List ℕ) (old new : Seen) (before after : Said) : Status → Type 0 where
  printed : (text : List ℕ) → Shelved row name old new (Ok text) → Says text before after → Ends row name old new before after Done
  unprinted : (text : List ℕ) → Shelved row name old new (Ok text) → SaysFront text before after → Ends row name old new before after SinkFault
  told : (s : Status) → Shelved row name old new (Err s) → SaysLine s before after → Ends row name old new before after s

-- the status of an outcome
abbrev pub status_in : Result Answer Status → Status
status_in (Ok answer) = answer.status
status_in (Err s) = s

-- an outcome of the row with this status
pub record Allows (row : Step Answer) (files : Files) (s : Status) : Type 0 where
  pub outcome : Result Answer Status
  pub by_row : row (Some files) outcome
  pub same : status_in outcome ≡ s

-- Each status comes exactly where the told files allow it, a fault of the shelf or the sink and want of memory aside;
-- and the sink's fault only where they allow `Done`.
abbrev pub IsExact : Step Answer → Option Files → Status → Type 0
IsExact row None status = Unit {0}
IsExact row (Some files) status =
    ((s : Status) → status ≢ ShelfFault → status ≢ SinkFault → status ≢ NoMemory → (status ≡ s) ↔ Allows row files s)
    × (status ≡ SinkFault → Allows row files Done)

-- the row gives an answer, and its output is the file of that name
abbrev pub IsAnswered : Step Answer → List ℕ → Files → Status → Option Files → Type 0
IsAnswered row name files status after =
    (answer : Answer) × row (Some files) (Ok answer) × (status ≡ answer.status) × (after ≡ Some (with_output name answer.output files))

-- Where the row refuses nothing over the told files and no fault was counted, it was answered, or memory was wanted.
abbrev pub Completes : Step Answer → List ℕ → Seen → Seen → Said → Said → Status → Type 0
Completes row name old new before after status = IfSome old.files (λ files.
    ((s : Status) → row (Some files) (Err s) → ⊥) → (Rose old.faults new.faults → ⊥) → (Rose before.faults after.faults → ⊥)
    → IsAnswered row name files status new.files ⊎ (status ≡ NoMemory))

-- a fault of the shelf was counted, and after every other status the count is what it was
abbrev pub CountsShelf : Seen → Seen → Status → Type 0
CountsShelf old new status = (status ≡ ShelfFault → Counted old.faults new.faults) × (status ≢ ShelfFault → new.faults ≡ old.faults)

-- a fault of the sink was counted, and after a command that was done none
abbrev pub CountsSink : Said → Said → Status → Type 0
CountsSink old new status = (status ≡ SinkFault → Counted old.faults new.faults) × (status ≡ Done → new.faults ≡ old.faults)

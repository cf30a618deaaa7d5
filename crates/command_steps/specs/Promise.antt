-- What a function promises that takes a step of a command.
use Rattle.std.specs.Prelude.{◌≡◌, ◌≢◌, ◌⊎◌, ℕ, Option, Result, Ok, Err}
use Rattle.shelf_io.specs.Faults.{Counted}
use Rattle.shelf_io.specs.Shelf.{Files}
use Rattle.steps.specs.Decides as steps
use Rattle.command_steps.specs.declared.status.Status.{Status}
use Rattle.command_steps.specs.declared.status.Status.TheVariants.{Done, Usage, ShelfFault, SinkFault, NoMemory, FileMissing}
use Rattle.command_steps.specs.Step.{Step}

-- a shelf, as far as contracts see it: its files, where it tells them, and its count of faults
pub record Seen : Type 0 where
  pub files : Option Files
  pub faults : ℕ

abbrev pub seen : {S : Type 0} → (S → Option Files) → (S → ℕ) → S → Seen
seen files faults shelf = record { files = files shelf; faults = faults shelf }

-- a status that the files decide: neither the end of a command that is done, nor one that no file decides
pub record IsRefusal (s : Status) : Type 0 where
  pub not_done : s ≢ Done
  pub not_usage : s ≢ Usage
  pub not_shelf_fault : s ≢ ShelfFault
  pub not_sink_fault : s ≢ SinkFault
  pub not_memory : s ≢ NoMemory

-- a refusal by what was read: no file is missing
pub record IsRefusedAlone (s : Status) : Type 0 where
  pub refusal : IsRefusal s
  pub not_missing : (place : ℕ) → s ≢ FileMissing place

-- a status of a function that sees no file
abbrev pub IsBetween : Status → Type 0
IsBetween s = IsRefusedAlone s ⊎ (s ≡ NoMemory)

-- The function's result is an outcome of the step, its value seen by view; or a fault was counted, or memory
-- wanted. No file changed, and no other end raises the count.
pub data Follows {X A : Type 0} (view : X → A) (step : Step A) (old new : Seen) : Result X Status → Type 0 where
  gave : (x : X) → step old.files (Ok (view x)) → new ≡ old → Follows view step old new (Ok x)
  refused : (s : Status) → step old.files (Err s) → IsRefusal s → new ≡ old → Follows view step old new (Err s)
  fault : new.files ≡ old.files → Counted old.faults new.faults → Follows view step old new (Err ShelfFault)
  memory : new ≡ old → Follows view step old new (Err NoMemory)

-- the same of a function that sees no shelf, at a step that no file decides
abbrev pub Decides : {X A : Type 0} → (X → A) → Step A → Result X Status → Type 0
Decides view step result = steps.Decides IsRefusedAlone NoMemory view step result

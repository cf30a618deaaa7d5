-- The answer that the row of a command gives, and what becomes of it.
use Rattle.std.specs.Prelude.{◌≡◌, ℕ, ◌⊎◌, List, take, Option, Some, None, option_map, Result, Ok, Err}
use Rattle.shelf_io.specs.Faults.{Counted}
use Rattle.shelf_io.specs.Shelf.{Files, with_file}
use Rattle.command_steps.specs.declared.status.Status.{Status}
use Rattle.command_steps.specs.declared.status.Status.TheVariants.{Done, ShelfFault, NoMemory}
use Rattle.command_steps.specs.Step.{Step}
use Rattle.command_steps.specs.Promise.{Seen, IsRefusal}

-- the status, the bytes of the output file, where one is written, and what is printed
pub record Answer : Type 0 where
  pub status : Status
  pub output : Option (List ℕ)
  pub printed : List ℕ

abbrev pub writes : List ℕ → List ℕ → Answer
writes bytes printed = record { status = Done; output = Some bytes; printed = printed }

abbrev pub prints : List ℕ → Answer
prints printed = record { status = Done; output = None; printed = printed }

-- the files with the output as the file of that name
abbrev pub with_output : List ℕ → Option (List ℕ) → Files → Files
with_output name None files = files
with_output name (Some bytes) files = with_file files name bytes

-- the first n bytes of the output
abbrev pub front_of : ℕ → Option (List ℕ) → Option (List ℕ)
front_of n output = option_map (take n) output

-- writing a file: it is these bytes, or after a fault it is untouched or a front of them; no other file changes
abbrev pub IsWritten : {E : Type 0} → List ℕ → List ℕ → Option Files → Option Files → Result (Unit {0}) E → Type 0
IsWritten name bytes old new (Ok done) = new ≡ option_map (λ files. with_file files name bytes) old
IsWritten name bytes old new (Err error) = (new ≡ old) ⊎ ((n : ℕ) × (new ≡ option_map (λ files. with_file files name (take n bytes)) old))

-- the output is the file of that name, and no other file changed
pub record IsKept (name : List ℕ) (output : Option (List ℕ)) (old new : Seen) : Type 0 where
  pub written : new.files ≡ option_map (with_output name output) old.files
  pub count : new.faults ≡ old.faults

-- a fault was counted, and the file of that name is untouched or a front of the output
pub record IsBroken (name : List ℕ) (output : Option (List ℕ)) (old new : Seen) : Type 0 where
  pub front : (new.files ≡ old.files) ⊎ ((n : ℕ) × (new.files ≡ option_map (with_output name (front_of n output)) old.files))
  pub counted : Counted old.faults new.faults

abbrev pub IsOutput : {E : Type 0} → List ℕ → Option (List ℕ) → Seen → Seen → Result (Unit {0}) E → Type 0
IsOutput name output old new (Ok done) = IsKept name output old new
IsOutput name output old new (Err error) = IsBroken name output old new

-- what is done with an answer: the text that is left to print, or the status
pub data Delivers (answer : Answer) (name : List ℕ) (old new : Seen) : Result (List ℕ) Status → Type 0 where
  delivered : answer.status ≡ Done → IsKept name answer.output old new → (text : List ℕ) → text ≡ answer.printed → Delivers answer name old new (Ok text)
  lost : IsRefusal answer.status → IsKept name answer.output old new → (s : Status) → s ≡ answer.status → Delivers answer name old new (Err s)
  broken : IsBroken name answer.output old new → Delivers answer name old new (Err ShelfFault)

-- What the shelf's part of a command ends with. The row's answer was given and delivered; or the row refuses, and
-- nothing changed; or a fault was counted before there was an answer, or memory was wanted, and no file changed.
pub data Shelved (row : Step Answer) (name : List ℕ) (old new : Seen) : Result (List ℕ) Status → Type 0 where
  answered : (answer : Answer) → row old.files (Ok answer) → (result : Result (List ℕ) Status) → Delivers answer name old new result → Shelved row name old new result
  stopped : (s : Status) → row old.files (Err s) → IsRefusal s → new ≡ old → Shelved row name old new (Err s)
  failed : new.files ≡ old.files → Counted old.faults new.faults → Shelved row name old new (Err ShelfFault)
  starved : new ≡ old → Shelved row name old new (Err NoMemory)

-- The reads of a command's input files over any shelf: what they tell, and which of them decides how it ends.
use Rattle.std.specs.Prelude.{◌⊎◌, ℕ, ◌<◌, List, [], ◌∷◌, Result, Ok, Err}
use Rattle.shelf_io.specs.declared.outside.Unread.TheVariants as unread
use Rattle.shelf_io.specs.Reads.{Telling, HasRead, LastRead, whole_room}
use Rattle.command_steps.specs.declared.status.Status.{Status}
use Rattle.command_steps.specs.declared.status.Status.TheVariants.{ShelfFault, FileTooLong, FileMissing, NoMemory}
use Rattle.command_steps.specs.Promise.{IsBetween}

-- an input file: its name and the place of that among the words, the most bytes that it may have, and how many
-- bytes are asked for at a time
pub record Input : Type 0 where
  pub name : List ℕ
  pub place : ℕ
  pub limit : ℕ
  pub room : ℕ

-- an input file that is read as a whole
abbrev pub whole_input : List ℕ → ℕ → ℕ → Input
whole_input name place limit = record { name = name; place = place; limit = limit; room = whole_room }

-- an input file was read to its end
abbrev pub IsReadToEnd : {S : Type 0} → Telling S → Input → S → S → Type 0
IsReadToEnd gives input first last = (size : ℕ) × LastRead gives input.name input.room first last size (Ok 0)

-- these files were read to their ends, one behind the other, and nothing else was read
pub data AreRead {S : Type 0} (gives : Telling S) : List Input → S → S → Type 0 where
  none_read : (first : S) → AreRead gives [] first first
  one_read : (input : Input) (inputs : List Input) (first mid last : S) → IsReadToEnd gives input first mid → AreRead gives inputs mid last → AreRead gives (input ∷ inputs) first last

-- a read of an input file decided the status: it failed, there was no such file, or the bytes are more than the
-- limit; or memory was wanted for what was read so far
pub data StopsIn {S : Type 0} (gives : Telling S) (input : Input) (first last : S) : Status → Type 0 where
  faulty : (at : ℕ) → LastRead gives input.name input.room first last at (Err unread.Failed) → StopsIn gives input first last ShelfFault
  absent : (at : ℕ) → LastRead gives input.name input.room first last at (Err unread.Missing) → StopsIn gives input first last (FileMissing input.place)
  beyond : (at : ℕ) → input.limit < at → HasRead gives input.name input.room first at last → StopsIn gives input first last (FileTooLong input.limit)
  starved : (at : ℕ) → HasRead gives input.name input.room first at last → StopsIn gives input first last NoMemory

-- a status before all files were read: one that what was read so far decided, or that a read of the next file decided
pub data Stops {S : Type 0} (gives : Telling S) : List Input → S → S → Status → Type 0 where
  between : (inputs : List Input) (first : S) (s : Status) → IsBetween s → Stops gives inputs first first s
  inside : (input : Input) (inputs : List Input) (first last : S) (s : Status) → StopsIn gives input first last s → Stops gives (input ∷ inputs) first last s
  behind : (input : Input) (inputs : List Input) (first mid last : S) (s : Status) → IsReadToEnd gives input first mid → Stops gives inputs mid last s → Stops gives (input ∷ inputs) first last s

-- the reads of a function that needs all of these files
abbrev pub ReadsInputs : {S X : Type 0} → Telling S → List Input → S → S → Result X Status → Type 0
ReadsInputs gives inputs first last (Ok x) = AreRead gives inputs first last
ReadsInputs gives inputs first last (Err s) = Stops gives inputs first last s

-- the reads of a command, behind which a shelf may be written to: all of its files were read, or a status came before
abbrev pub ReadsFirst : {S : Type 0} → Telling S → List Input → S → Status → Type 0
ReadsFirst gives inputs first status = (last : _) × (AreRead gives inputs first last ⊎ Stops gives inputs first last status)

-- the same of the part of a command that sees the shelf
abbrev pub ReadsBefore : {S X : Type 0} → Telling S → List Input → S → Result X Status → Type 0
ReadsBefore gives inputs first (Ok x) = (last : _) × AreRead gives inputs first last
ReadsBefore gives inputs first (Err s) = ReadsFirst gives inputs first s

-- Reads of one file over any shelf, each from the place where the one before it ended.
use Rattle.std.specs.Prelude.{ℕ, ◌+◌, ◌<◌, List, length, Vec, Result, Ok, Err}
use Rattle.std.specs.declared.alloc.Global.{Global}
use Rattle.shelf_io.specs.declared.outside.Unread.{Unread}
use Rattle.shelf_io.specs.declared.outside.Unread.TheVariants as unread
use Rattle.shelf_io.specs.declared.whole_files.ReadAllFault.{ReadAllFault}
use Rattle.shelf_io.specs.declared.whole_files.ReadAllFault.TheVariants.{Failed, Missing, TooLong, NoMemory}

-- What a call of read tells of the shelves before and after it: the file's name, the place in it, how many bytes were
-- asked for, and the answer.
abbrev pub Telling : Type 0 → Type 1
Telling S = S → List ℕ → ℕ → ℕ → Result ℕ Unread → S → Type 0

-- reads from the start on, each for so many bytes, that gave these many in all, some each, lead from the first
-- shelf to this one
pub data HasRead {S : Type 0} (gives : Telling S) (name : List ℕ) (room : ℕ) (first : S) : ℕ → S → Type 0 where
  none : HasRead gives name room first 0 first
  more : (at n : ℕ) (mid last : S) → HasRead gives name room first at mid → 0 < n → gives mid name at room (Ok n) last → HasRead gives name room first (at + n) last

-- one more read, from the place that they came to, answers this and leads to the last shelf
pub record LastRead {S : Type 0} (gives : Telling S) (name : List ℕ) (room : ℕ) (first last : S) (at : ℕ) (answer : Result ℕ Unread) : Type 0 where
  pub before : S
  pub run : HasRead gives name room first at before
  pub read : gives before name at room answer last

-- how many bytes a whole file is asked for at a time
abbrev pub whole_room : ℕ
whole_room = 4096

-- The last read decides what reading a whole file answers: at its end it gave nothing, or it had an error, or the
-- bytes that it gave are more than the limit. Memory may be wanted for any of them.
abbrev pub EndsReads : {S : Type 0} → Telling S → List ℕ → ℕ → S → S → Result (Vec ℕ Global) ReadAllFault → Type 0
EndsReads gives name limit first last (Ok bytes) = LastRead gives name whole_room first last (length bytes.items) (Ok 0)
EndsReads gives name limit first last (Err Failed) = (at : ℕ) × LastRead gives name whole_room first last at (Err unread.Failed)
EndsReads gives name limit first last (Err Missing) = (at : ℕ) × LastRead gives name whole_room first last at (Err unread.Missing)
EndsReads gives name limit first last (Err (TooLong most)) = (at : ℕ) × (limit < at) × HasRead gives name whole_room first at last
EndsReads gives name limit first last (Err NoMemory) = (at : ℕ) × HasRead gives name whole_room first at last

-- An input file that is read piece by piece, from the place where the one before it ended.
use Rattle.std.specs.Prelude.{◌≡◌, ℕ, ◌+◌, ◌<◌, ◌≤◌, List, ◌++◌, length, take, Option, IfSome, Result, Ok, Err}
use Rattle.shelf_io.specs.declared.outside.Unread.TheVariants as unread
use Rattle.shelf_io.specs.Reads.{Telling}
use Rattle.shelf_io.specs.Shelf.{Files, content}
use Rattle.command_steps.specs.declared.status.Status.{Status}
use Rattle.command_steps.specs.declared.status.Status.TheVariants.{ShelfFault, FileTooLong, FileMissing}
use Rattle.command_steps.specs.Step.{InputAt}
use Rattle.command_steps.specs.Promise.{Seen, Follows}

-- the file of that name starts with the text, where the files are told
abbrev pub StartsFile : Option Files → List ℕ → List ℕ → Type 0
StartsFile files name text = IfSome files (λ told. text ≡ take (length text) (content told name))

-- behind the text stand the first n bytes of the room, and nothing where n is 0
pub record GoesOn (name : List ℕ) (place limit : ℕ) (text room : List ℕ) (old new : Seen) (n : ℕ) : Type 0 where
  pub same : new ≡ old
  pub inside : n ≤ length room
  pub within : length text + n ≤ limit
  pub starts : StartsFile new.files name (text ++ take n room)
  pub ends : n ≡ 0 → InputAt name place limit new.files (Ok text)

-- what a read behind the text answers: the next piece, or why there is no text
abbrev pub ReadsPiece : List ℕ → ℕ → ℕ → List ℕ → List ℕ → Seen → Seen → Result ℕ Status → Type 0
ReadsPiece name place limit text room old new (Ok n) = GoesOn name place limit text room old new n
ReadsPiece name place limit text room old new (Err s) = Follows (λ (bytes : List ℕ). bytes) (InputAt name place limit) old new (Err s)

-- what the one read of a piece told: the bytes that it gave, or the answer that decides the status
pub data TellsPiece {S : Type 0} (gives : Telling S) (name : List ℕ) (place limit at room : ℕ) (old new : S) : Result ℕ Status → Type 0 where
  gave_bytes : (n : ℕ) → gives old name at room (Ok n) new → TellsPiece gives name place limit at room old new (Ok n)
  gave_fault : gives old name at room (Err unread.Failed) new → TellsPiece gives name place limit at room old new (Err ShelfFault)
  gave_nothing : gives old name at room (Err unread.Missing) new → TellsPiece gives name place limit at room old new (Err (FileMissing place))
  gave_too_much : (n : ℕ) → limit < at + n → gives old name at room (Ok n) new → TellsPiece gives name place limit at room old new (Err (FileTooLong limit))

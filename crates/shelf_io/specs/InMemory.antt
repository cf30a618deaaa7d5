-- What each call of a shelf in memory answers, and what it leaves.
use Rattle.std.specs.Prelude.{◌≡◌, ℕ, ◌-◌, List, [], ◌++◌, length, take, drop, min, Option, Some, None, Result, Ok, Err}
use Rattle.shelf_io.specs.declared.outside.Failed.{Failed}
use Rattle.shelf_io.specs.declared.outside.Unread.{Unread}
use Rattle.shelf_io.specs.declared.outside.Unread.TheVariants.{Missing}
use Rattle.shelf_io.specs.Faults.{Counted}
use Rattle.shelf_io.specs.Shelf.{with_file, appended}
use Rattle.shelf_io.specs.Entries.{Kept, files_of}

-- the number of bytes of a file
abbrev pub length_of : Option (List ℕ) → Result ℕ Unread
length_of None = Err Missing
length_of (Some bytes) = Ok (length bytes)

-- how many bytes of a file there are from place at on and find room
abbrev pub count_read : ℕ → ℕ → Option (List ℕ) → Result ℕ Unread
count_read at room None = Err Missing
count_read at room (Some bytes) = Ok (min room (length bytes - at))

-- the room with these bytes at its front
abbrev pub room_after : ℕ → List ℕ → Option (List ℕ) → List ℕ
room_after at room None = room
room_after at room (Some bytes) = take (length room) (drop at bytes) ++ drop (length bytes - at) room

-- a call of length changes nothing
pub record IsLengthCall (name : List ℕ) (old new : Kept) (result : Result ℕ Unread) : Type 0 where
  pub answer : result ≡ length_of (files_of old.entries name)
  pub same : new ≡ old

-- a call of read changes nothing but the room
pub record IsReadCall (name : List ℕ) (at : ℕ) (before after : List ℕ) (old new : Kept) (result : Result ℕ Unread) : Type 0 where
  pub answer : result ≡ count_read at (length before) (files_of old.entries name)
  pub room : after ≡ room_after at before (files_of old.entries name)
  pub same : new ≡ old

-- a call of make leaves the file empty; an error is a fault that was counted, and no file changes
abbrev pub IsMakeCall : List ℕ → Kept → Kept → Result (Unit {0}) Failed → Type 0
IsMakeCall name old new (Ok value) = (files_of new.entries ≡ with_file (files_of old.entries) name []) × (new.faults ≡ old.faults)
IsMakeCall name old new (Err failed) = (new.entries ≡ old.entries) × Counted old.faults new.faults

-- a call of put puts all bytes behind those of the file; an error is a fault that was counted, and no file changes
abbrev pub IsPutCall : List ℕ → List ℕ → Kept → Kept → Result ℕ Failed → Type 0
IsPutCall name bytes old new (Ok k) = (k ≡ length bytes) × (files_of new.entries ≡ appended name bytes (files_of old.entries)) × (new.faults ≡ old.faults)
IsPutCall name bytes old new (Err failed) = (new.entries ≡ old.entries) × Counted old.faults new.faults

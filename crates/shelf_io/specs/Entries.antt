-- Files in memory, as the list of those that were made, and text in memory.
use Rattle.std.specs.Prelude.{◌≡◌, ◌≢◌, ℕ, ◌<◌, List, [], ◌∷◌, length, if◌then◌else◌, Some, None, bytes_eq, All, HoldsAt}
use Rattle.std.specs.List.{AllWithin}
use Rattle.shelf_io.specs.Calls.{Calls}
use Rattle.shelf_io.specs.Shelf.{Files}

-- a file: its name and its bytes
pub record Entry : Type 0 where
  pub name : List ℕ
  pub bytes : List ℕ

-- a shelf in memory: its files, and how many calls failed
pub record Kept : Type 0 where
  pub entries : List Entry
  pub faults : ℕ

-- the files that the list holds, the first of each name
abbrev pub files_of : List Entry → Files
files_of [] name = None
files_of (entry ∷ rest) name = if bytes_eq name entry.name then Some entry.bytes else files_of rest name

-- the same with some calls that fail by their number, and a count of faults of its own
pub record Failing : Type 0 where
  pub inner : Kept
  pub calls : Calls
  pub faults : ℕ

-- a sink in memory: all that it has taken, its puts, and how many of them failed
pub record Taken : Type 0 where
  pub text : List ℕ
  pub calls : Calls
  pub faults : ℕ

-- no file of the list has the name
abbrev pub IsNowhere : List Entry → List ℕ → Type 0
IsNowhere entries name = All (λ entry. entry.name ≢ name) entries

-- the first file of the name stands at place i
pub record IsFirstAt (entries : List Entry) (name : List ℕ) (i : ℕ) : Type 0 where
  pub inside : i < length entries
  pub here : HoldsAt (λ entry. entry.name ≡ name) entries i
  pub before : AllWithin (λ entry. entry.name ≢ name) entries 0 i

-- The files of a shelf, and what each call's answer says of them.
use Rattle.std.specs.Prelude.{◌≡◌, ℕ, ◌-◌, ◌≤◌, ◌⊎◌, List, [], ◌++◌, length, take, drop, if◌then◌else◌, Option, Some, None, option_map, unwrap_or, IfSome, IsSomeAnd, Result, Ok, Err, bytes_eq}
use Rattle.shelf_io.specs.declared.outside.Unread.{Unread}
use Rattle.shelf_io.specs.declared.outside.Unread.TheVariants.{Failed, Missing}

-- the bytes of the file of each name, and none where there is no such file
abbrev pub Files : Type 0
Files = List ℕ → Option (List ℕ)

-- the files with these bytes as the file of that name
abbrev pub with_file : Files → List ℕ → List ℕ → Files
with_file files name bytes = λ other. if bytes_eq other name then Some bytes else files other

-- the bytes of the file, and no bytes where there is no such file
abbrev pub content : Files → List ℕ → List ℕ
content files name = unwrap_or (files name) []

-- the files with these bytes behind those of the file, which is made where it isn't there
abbrev pub appended : List ℕ → List ℕ → Files → Files
appended name bytes files = with_file files name (content files name ++ bytes)

-- what holds of the file of that name, where the shelf tells its files
abbrev pub OnFile : Option Files → List ℕ → (Option (List ℕ) → Type 0) → Type 0
OnFile files name P = IfSome files (λ told. P (told name))

-- the length of a file that is there
abbrev pub IsLength : Result ℕ Unread → Option (List ℕ) → Type 0
IsLength (Ok n) file = IsSomeAnd file (λ bytes. n ≡ length bytes)
IsLength (Err Failed) file = Unit {0}
IsLength (Err Missing) file = file ≡ None

-- the n bytes from place at on stand at the front of the room, and are none only for want of room or of bytes
pub record Reads (at : ℕ) (room : List ℕ) (n : ℕ) (bytes : List ℕ) : Type 0 where
  pub front : take n room ≡ take n (drop at bytes)
  pub inside : n ≤ length bytes - at
  pub ends : n ≡ 0 → (room ≡ []) ⊎ (length bytes ≤ at)

-- the room as a call of read leaves it
abbrev pub IsRead : ℕ → List ℕ → Result ℕ Unread → Option (List ℕ) → Type 0
IsRead at room (Ok n) file = IsSomeAnd file (Reads at room n)
IsRead at room (Err Failed) file = Unit {0}
IsRead at room (Err Missing) file = file ≡ None

-- what a call of read keeps of the room: what stands behind the bytes read, and after an error all of it
abbrev pub KeepsRoom : {E : Type 0} → List ℕ → List ℕ → Result ℕ E → Type 0
KeepsRoom old new (Ok n) = drop n new ≡ drop n old
KeepsRoom old new (Err error) = new ≡ old

-- the files after a call of make, where they are told: the file is empty, and after an error that or unchanged
abbrev pub IsMade : {T E : Type 0} → List ℕ → Option Files → Option Files → Result T E → Type 0
IsMade name old new (Ok value) = new ≡ option_map (λ files. with_file files name []) old
IsMade name old new (Err error) = (new ≡ old) ⊎ (new ≡ option_map (λ files. with_file files name []) old)

-- the files after a call of put, where they are told: the first k bytes are behind the file's, and after an
-- error none, though the file may have been made
abbrev pub IsPut : {E : Type 0} → List ℕ → List ℕ → Option Files → Option Files → Result ℕ E → Type 0
IsPut name bytes old new (Ok k) = new ≡ option_map (appended name (take k bytes)) old
IsPut name bytes old new (Err error) = (new ≡ old) ⊎ (new ≡ option_map (appended name []) old)

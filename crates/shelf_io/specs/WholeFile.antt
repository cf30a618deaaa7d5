-- Reading a whole file, and putting all of a text.
use Rattle.std.specs.Prelude.{◌≡◌, ℕ, ◌<◌, ◌≤◌, ◌⊎◌, List, [], ◌∷◌, length, take, Option, None, option_map, IsSomeAnd, Vec, Result, Ok, Err}
use Rattle.std.specs.declared.alloc.Global.{Global}
use Rattle.shelf_io.specs.declared.whole_files.ReadAllFault.{ReadAllFault}
use Rattle.shelf_io.specs.declared.whole_files.ReadAllFault.TheVariants.{Failed, Missing, TooLong, NoMemory}
use Rattle.shelf_io.specs.Faults.{Counted}
use Rattle.shelf_io.specs.Shelf.{Files, with_file, appended}

-- what an answer says of the file: it is all of its bytes, there is no file, or there are more bytes than the limit
abbrev pub IsWhole : ℕ → Result (Vec ℕ Global) ReadAllFault → Option (List ℕ) → Type 0
IsWhole limit (Ok read) file = IsSomeAnd file (λ bytes. (read.items ≡ bytes) × (length bytes ≤ limit))
IsWhole limit (Err Failed) file = Unit {0}
IsWhole limit (Err Missing) file = file ≡ None
IsWhole limit (Err (TooLong most)) file = IsSomeAnd file (λ bytes. limit < length bytes)
IsWhole limit (Err NoMemory) file = Unit {0}

-- what an answer says over any shelf: the bytes keep the limit, and the refusal carries it
abbrev pub KeepsLimit : ℕ → Result (Vec ℕ Global) ReadAllFault → Type 0
KeepsLimit limit (Ok read) = length read.items ≤ limit
KeepsLimit limit (Err Failed) = Unit {0}
KeepsLimit limit (Err Missing) = Unit {0}
KeepsLimit limit (Err (TooLong most)) = most ≡ limit
KeepsLimit limit (Err NoMemory) = Unit {0}

-- a Failed is a fault that was counted, and any other answer leaves the count
abbrev pub CountsReadAll : ℕ → ℕ → Result (Vec ℕ Global) ReadAllFault → Type 0
CountsReadAll before now (Ok read) = now ≡ before
CountsReadAll before now (Err Failed) = Counted before now
CountsReadAll before now (Err Missing) = now ≡ before
CountsReadAll before now (Err (TooLong most)) = now ≡ before
CountsReadAll before now (Err NoMemory) = now ≡ before

-- the files with these bytes behind those of the file; no bytes put nothing, and make no file
abbrev pub all_appended : List ℕ → List ℕ → Files → Files
all_appended name [] files = files
all_appended name (byte ∷ rest) files = appended name (byte ∷ rest) files

-- the files where not all bytes could be put: only the first k are there, and where these are none the file
-- may have been made all the same
abbrev pub IsPutInPart : List ℕ → List ℕ → Option Files → Option Files → Type 0
IsPutInPart name bytes old new = (k : ℕ) × (k < length bytes)
    × ((new ≡ option_map (all_appended name (take k bytes)) old) ⊎ (new ≡ option_map (appended name (take k bytes)) old))

-- the files after all bytes were put, where they are told, and after an error only the first of them
abbrev pub IsPutAll : {T E : Type 0} → List ℕ → List ℕ → Option Files → Option Files → Result T E → Type 0
IsPutAll name bytes old new (Ok value) = new ≡ option_map (all_appended name bytes) old
IsPutAll name bytes old new (Err error) = IsPutInPart name bytes old new

-- the files after one was made of these bytes, where they are told; after an error it is untouched or a front
-- of the bytes, and no other file changed
abbrev pub IsWritten : {T E : Type 0} → List ℕ → List ℕ → Option Files → Option Files → Result T E → Type 0
IsWritten name bytes old new (Ok value) = new ≡ option_map (λ files. with_file files name bytes) old
IsWritten name bytes old new (Err error) = (new ≡ old) ⊎ ((n : ℕ) × (new ≡ option_map (λ files. with_file files name (take n bytes)) old))

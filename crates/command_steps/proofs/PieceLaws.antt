-- An input file that is read piece by piece: a read behind the text that has come.
use Rattle.std.proofs.Common.{◌≡◌, ℕ, ◌+◌, ◌-◌, ◌<◌, ◌≤◌, List, ◌++◌, length, take, Option, Some, None, Ok, Err, refl, sym, ap, ◌∙◌, subst, arith}
use Rattle.std.specs.Prelude.{IsSomeAnd}
use Rattle.std.proofs.lemmas.List.{length-append, length-take-le}
use Rattle.shelf_io.specs.Shelf.{Files, OnFile, IsRead, Reads}
use Rattle.shelf_io.specs.declared.outside.Unread.TheVariants as unread
use Rattle.shelf_io.proofs.ShelfLemmas.{read_step, read_end}
use Rattle.command_steps.specs.declared.status.Status.TheVariants.{FileTooLong, FileMissing}
use Rattle.command_steps.specs.Step.{InputAt, missing, too_long, found}
use Rattle.command_steps.specs.Promise.{Seen, Follows, refused}
use Rattle.command_steps.proofs.StepLaws.{some_and, missing_is_refusal, too_long_is_refusal}
use Rattle.command_steps.specs.Pieces.{StartsFile, GoesOn}

-- the text is all of the file, which keeps the limit
abbrev IsAll : ℕ → List ℕ → Option (List ℕ) → Type 0
IsAll limit text file = IsSomeAnd file (λ bytes. (text ≡ bytes) × (length bytes ≤ limit))

some_is : (limit : ℕ) (text : List ℕ) (file : Option (List ℕ)) → IsAll limit text file → file ≡ Some text
some_is limit text file whole =
    let bytes = some_and file (λ bytes. (text ≡ bytes) × (length bytes ≤ limit)) whole in
    bytes.1 ∙ ap (λ (b : List ℕ). Some b) (sym bytes.2.0)

file_is : (limit : ℕ) (text name : List ℕ) (files : Option Files) → OnFile files name (IsAll limit text) → OnFile files name (λ file. file ≡ Some text)
file_is limit text name None whole = tt
file_is limit text name (Some files) whole = some_is limit text (files name) whole

-- a read within the limit
pub piece_comes : (name : List ℕ) (place limit : ℕ) (text room : List ℕ) (old new : Seen) (at n : ℕ) → at ≡ length text → n ≤ length room → 0 < length room → length text + n ≤ limit
    → StartsFile old.files name text → OnFile old.files name (IsRead at room (Ok n)) → new ≡ old → GoesOn name place limit text room old new n
piece_comes name place limit text room old new at n here inside some within starts read same =
    let more : List ℕ = text ++ take n room in
    let size : length more ≡ length text + n = omega (arith, length-append text (take n room), length-take-le n room inside) in
    let short : length text ≤ limit = omega (arith, within) in
    let files : new.files ≡ old.files = ap (λ (seen : Seen). seen.files) same in
    let longer = read_step old.files old.files name text room more (length text) at n (length more) refl here refl size starts read in
    let whole = λ (none : n ≡ 0). subst (λ (f : Option Files). OnFile f name (IsAll limit text)) (sym files)
    (read_end old.files old.files name text room (length text) at n limit refl here none some short starts read) in
    record {
      same = same;
      inside = inside;
      within = within;
      starts = subst (λ (f : Option Files). StartsFile f name more) (sym files) longer;
      ends = λ none. found text (file_is limit text name new.files (whole none)) short;
    }

longer : (file : Option (List ℕ)) (room : List ℕ) (at n limit : ℕ) → at ≤ limit → limit - at < n → IsSomeAnd file (Reads at room n)
    → IsSomeAnd file (λ bytes. limit < length bytes)
longer None room at n limit within more read = absurd read
longer (Some bytes) room at n limit within more read = omega (arith, within, more, read.inside)

file_is_longer : (files : Option Files) (name room : List ℕ) (at n limit : ℕ) → at ≤ limit → limit - at < n → OnFile files name (IsRead at room (Ok n))
    → OnFile files name (λ file. IsSomeAnd file (λ bytes. limit < length bytes))
file_is_longer None name room at n limit within more read = tt
file_is_longer (Some files) name room at n limit within more read = longer (files name) room at n limit within more read

-- a read beyond the limit
pub piece_is_too_long : (name : List ℕ) (place limit : ℕ) (room : List ℕ) (old new : Seen) (at n : ℕ) → at ≤ limit → limit - at < n → OnFile old.files name (IsRead at room (Ok n))
    → new ≡ old → Follows (λ (bytes : List ℕ). bytes) (InputAt name place limit) old new (Err (FileTooLong limit))
piece_is_too_long name place limit room old new at n within more read same =
    refused (FileTooLong limit) (too_long (file_is_longer old.files name room at n limit within more read)) (too_long_is_refusal limit) same

-- a read of a file that isn't there
pub piece_is_missing : (name : List ℕ) (place limit : ℕ) (room : List ℕ) (old new : Seen) (at : ℕ) → OnFile old.files name (IsRead at room (Err unread.Missing)) → new ≡ old
    → Follows (λ (bytes : List ℕ). bytes) (InputAt name place limit) old new (Err (FileMissing place))
piece_is_missing name place limit room old new at none same = refused (FileMissing place) (missing none) (missing_is_refusal place) same

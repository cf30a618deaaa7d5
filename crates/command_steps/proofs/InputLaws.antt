-- Reading a whole file is the step of an input file, by the reads that it tells.
use Rattle.std.proofs.Common.{◌≡◌, ℕ, ◌≤◌, List, [], ◌∷◌, length, Option, Some, None, Ok, Err, sym, ap, ◌∙◌}
use Rattle.std.specs.Global.{Vec}
use Rattle.shelf_io.specs.Shelf.{Files, OnFile}
use Rattle.shelf_io.specs.Reads.{Telling, EndsReads}
use Rattle.shelf_io.specs.WholeFile.{IsWhole}
use Rattle.shelf_io.specs.declared.whole_files.ReadAllFault.TheVariants as reading
use Rattle.command_steps.specs.declared.status.Status.TheVariants.{ShelfFault, FileTooLong, FileMissing, NoMemory}
use Rattle.command_steps.specs.Inputs.{Input, AreRead, none_read, one_read, Stops, whole_input, inside, faulty, absent, beyond, starved}
use Rattle.command_steps.specs.Step.{InputAt, missing, too_long, found}
use Rattle.command_steps.specs.Promise.{Seen, Follows, gave, refused}
use Rattle.command_steps.proofs.StepLaws.{some_and, too_long_is_refusal, missing_is_refusal}

abbrev with_counts : Option Files → ℕ → Seen
with_counts files faults = record { files = files; faults = faults }

pub seen_is : (old new : Seen) → new.files ≡ old.files → new.faults ≡ old.faults → new ≡ old
seen_is old new files count = ap (λ (f : Option Files). with_counts f new.faults) files ∙ ap (λ (n : ℕ). with_counts old.files n) count

whole_is : (files : Option Files) (name : List ℕ) (limit : ℕ) (read : Vec ℕ) → OnFile files name (IsWhole limit (Ok read)) → OnFile files name (λ file. file ≡ Some read.items)
whole_is None name limit read h = tt
whole_is (Some files) name limit read h =
    let bytes = some_and (files name) (λ bytes. (read.items ≡ bytes) × (length bytes ≤ limit)) h in
    bytes.1 ∙ ap (λ (b : List ℕ). Some b) (sym bytes.2.0)

pub input_found : (old new : Seen) (name : List ℕ) (place limit : ℕ) (read : Vec ℕ) → OnFile old.files name (IsWhole limit (Ok read)) → length read.items ≤ limit → new ≡ old
    → Follows (λ (v : Vec ℕ). v.items) (InputAt name place limit) old new (Ok read)
input_found old new name place limit read whole within same = gave read (found read.items (whole_is old.files name limit read whole) within) same

pub input_missing : (old new : Seen) (name : List ℕ) (place limit : ℕ) → OnFile old.files name (IsWhole limit (Err reading.Missing)) → new ≡ old
    → Follows (λ (v : Vec ℕ). v.items) (InputAt name place limit) old new (Err (FileMissing place))
input_missing old new name place limit whole same = refused (FileMissing place) (missing whole) (missing_is_refusal place) same

pub input_too_long : (old new : Seen) (name : List ℕ) (place limit most : ℕ) → OnFile old.files name (IsWhole limit (Err (reading.TooLong most))) → most ≡ limit → new ≡ old
    → Follows (λ (v : Vec ℕ). v.items) (InputAt name place limit) old new (Err (FileTooLong most))
input_too_long old new name place limit most whole is same =
    rw is (refused (FileTooLong limit) (too_long whole) (too_long_is_refusal limit) same)

-- ---- what the reads tell

module _ {S : Type 0} (gives : Telling S) (name : List ℕ) (place limit : ℕ) (first last : S) where
  abbrev input : Input
  input = whole_input name place limit

  pub whole_is_read : (read : Vec ℕ) → EndsReads gives name limit first last (Ok read) → AreRead gives (input ∷ []) first last
  whole_is_read read end = one_read input [] first last last (length read.items, end) (none_read last)

  pub fault_is_read : EndsReads gives name limit first last (Err reading.Failed) → Stops gives (input ∷ []) first last ShelfFault
  fault_is_read end = inside input [] first last ShelfFault (faulty end.0 end.1)

  pub absence_is_read : EndsReads gives name limit first last (Err reading.Missing) → Stops gives (input ∷ []) first last (FileMissing place)
  absence_is_read end = inside input [] first last (FileMissing place) (absent end.0 end.1)

  pub excess_is_read : (most : ℕ) → most ≡ limit → EndsReads gives name limit first last (Err (reading.TooLong most)) → Stops gives (input ∷ []) first last (FileTooLong most)
  excess_is_read most is end = rw is (inside input [] first last (FileTooLong limit) (beyond end.0 end.1 end.2))

  pub want_is_read : EndsReads gives name limit first last (Err reading.NoMemory) → Stops gives (input ∷ []) first last NoMemory
  want_is_read end = inside input [] first last NoMemory (starved end.0 end.1)

pub ruleset reads = (whole_is_read, fault_is_read, absence_is_read, excess_is_read, want_is_read)

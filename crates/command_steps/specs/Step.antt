-- The steps of commands: steps over files, which are refused by the status that the command ends with.
use Rattle.std.specs.Prelude.{◌≡◌, ℕ, ◌<◌, ◌≤◌, List, length, Option, Some, None, IsSomeAnd, Result, Ok, Err}
use Rattle.shelf_io.specs.Shelf.{Files, OnFile}
use Rattle.steps.specs.Step as steps
use Rattle.command_steps.specs.declared.status.Status.{Status}
use Rattle.command_steps.specs.declared.status.Status.TheVariants.{FileTooLong, FileMissing}

-- Which outcomes the files allow: a value, or the refusal that ends the command. Files that are told allow one at
-- most (`IsSingle`); where they aren't told, a step says what it would say over any files.
abbrev pub Step : Type 0 → Type 1
Step A = steps.Step (Option Files) Status A

-- the bytes of an input file, whose name is the word at this place
pub data InputAt (name : List ℕ) (place limit : ℕ) (files : Option Files) : Result (List ℕ) Status → Type 0 where
  missing : OnFile files name (λ file. file ≡ None) → InputAt name place limit files (Err (FileMissing place))
  too_long : OnFile files name (λ file. IsSomeAnd file (λ bytes. limit < length bytes)) → InputAt name place limit files (Err (FileTooLong limit))
  found : (bytes : List ℕ) → OnFile files name (λ file. file ≡ Some bytes) → length bytes ≤ limit → InputAt name place limit files (Ok bytes)

-- told files allow one outcome at most
abbrev pub IsSingle : {A : Type 0} → Step A → Type 0
IsSingle step = (files : Files) → steps.IsSingleAt (Some files) step

-- What the steps of the reader answer.
use Rattle.std.specs.Prelude.{◌≡◌, ◌≢◌, Option, Some, None, Result, Ok, Err}
use Rattle.constraint_file_spec.specs.declared.fault.ConstraintFault.{ConstraintFault}
use Rattle.constraint_file_spec.specs.declared.fault.ConstraintFault.TheVariants.{NoMemory}
use Rattle.constraint_file_spec.specs.Listed.{ListedParts as ListedData}
use Rattle.constraint_files.specs.declared.parts.ListedParts.{ListedParts}

-- what a function returned, seen by view, is what reading gives; want of memory says nothing of it
abbrev pub Answers : {X Y : Type 0} → (X → Y) → Result X ConstraintFault → Result Y ConstraintFault → Type 0
Answers view (Ok x) read = read ≡ Ok (view x)
Answers view (Err fault) read = fault ≢ NoMemory → read ≡ Err fault

-- the function refused exactly where the refusal holds
abbrev pub Checks : {X : Type 0} → Result X ConstraintFault → Option ConstraintFault → Type 0
Checks (Ok x) refusal = refusal ≡ None
Checks (Err fault) refusal = fault ≢ NoMemory → refusal ≡ Some fault

abbrev pub listed_data : ListedParts → ListedData
listed_data file = record {
  alphabet = file.alphabet;
  d = file.d;
  k = file.k;
  forbid = file.forbid.items;
  edges = file.edges.items;
}

-- What a table lists under the five keys, where each value has its type.
use Rattle.std.specs.Prelude.{ℕ, ℤ, true, Bool, not, List, [], Option, Some, None, find, option_map, option_and_then, unwrap_or, ok_or, Result, Ok, Err}
use Rattle.toml.specs.Data.{Data, Members, get_member, as_integer, as_array}
use Rattle.constraint_file_spec.specs.declared.file.Key.{Key}
use Rattle.constraint_file_spec.specs.declared.file.Key.TheVariants.{Alphabet, D, K, Forbid, Edges}
use Rattle.constraint_file_spec.specs.declared.file.ListedEdge.{ListedEdge}
use Rattle.constraint_file_spec.specs.declared.fault.ConstraintFault.{ConstraintFault}
use Rattle.constraint_file_spec.specs.declared.fault.ConstraintFault.TheVariants.{WrongType}
use Rattle.constraint_file_spec.specs.Keys.{key_rule, key_name, all_keys}
use Rattle.constraint_file_spec.specs.Values.{texts_of, edges_of, has_type}

infixl 10 ◌>>=◌
abbrev pub ◌>>=◌ : {A B : Type 0} → Result A ConstraintFault → (A → Result B ConstraintFault) → Result B ConstraintFault
(Ok x) >>= f = f x
(Err fault) >>= f = Err fault

-- the numbers that are given; and the forbidden words and the edges with repeats, in the order of the file, where
-- an empty array is as good as none
pub record ListedParts : Type 0 where
  pub alphabet : Option ℤ
  pub d : Option ℤ
  pub k : Option ℤ
  pub forbid : List (List ℕ)
  pub edges : List ListedEdge

-- what a value was read as, where it is there; where it is of another type than the key's, that key is refused
abbrev pub or_absent : {A : Type 0} → Key → A → Option (Option A) → Result A ConstraintFault
or_absent key absent None = Ok absent
or_absent key absent (Some read) = ok_or read (WrongType key)

abbrev pub part_at : {A : Type 0} → Key → A → (Data → Option A) → Members → Result A ConstraintFault
part_at key absent read table = or_absent key absent (option_map read (get_member (key_name key) table))

abbrev pub number_at : Key → Members → Result (Option ℤ) ConstraintFault
number_at key table = part_at key None (λ value. option_map (λ z. Some z) (as_integer value)) table

abbrev pub words_at : Members → Result (List (List ℕ)) ConstraintFault
words_at table = part_at Forbid [] (λ value. option_and_then texts_of (as_array value)) table

abbrev pub edges_at : Members → Result (List ListedEdge) ConstraintFault
edges_at table = part_at Edges [] (λ value. option_and_then edges_of (as_array value)) table

-- the alphabet and the runs are integers, the forbidden words an array of texts, the edges an array of tables
abbrev pub listed_parts : Members → Result ListedParts ConstraintFault
listed_parts table = do
  alphabet ← number_at Alphabet table
  d ← number_at D table
  k ← number_at K table
  forbid ← words_at table
  edges ← edges_at table
  Ok (record { alphabet = alphabet; d = d; k = k; forbid = forbid; edges = edges })

-- where the key stands in the table, its value has the key's type
abbrev pub is_well_typed : Members → Key → Bool
is_well_typed table key = unwrap_or (option_map (has_type (key_rule key).type) (get_member (key_name key) table)) true

-- the first of the keys whose value has another type
abbrev pub wrong_type : Members → Option ConstraintFault
wrong_type table = option_map (λ key. WrongType key) (find (λ key. not (is_well_typed table key)) all_keys)

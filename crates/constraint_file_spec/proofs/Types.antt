-- The first key whose value has another type is the one that is refused.
use Rattle.std.proofs.Common.{◌≡◌, ◌↔◌, ℤ, Bool, true, false, not, List, [], ◌∷◌, Option, Some, None, Result, Ok, Err, refl, ap}
use Rattle.std.specs.Prelude.{find, is_some, option_map, option_and_then, unwrap_or}
use Rattle.toml.specs.Data.{Data, Members, get_member, as_integer, as_array}
use Rattle.constraint_file_spec.specs.declared.file.Key.{Key}
use Rattle.constraint_file_spec.specs.declared.file.Key.TheVariants.{Alphabet, D, K, Forbid, Edges}
use Rattle.constraint_file_spec.specs.declared.fault.ConstraintFault.{ConstraintFault}
use Rattle.constraint_file_spec.specs.declared.fault.ConstraintFault.TheVariants.{WrongType}
use Rattle.constraint_file_spec.specs.Keys.{key_name}
use Rattle.constraint_file_spec.specs.Values.{texts_of, edges_of}
use Rattle.constraint_file_spec.specs.Listed.{◌>>=◌, ListedParts, or_absent, number_at, words_at, edges_at, listed_parts, is_well_typed, wrong_type}

-- what was read is there where the test passed, and else the key is refused
abbrev Told : {A : Type 0} → Key → Bool → Result A ConstraintFault → Type 0
Told key passed (Ok x) = passed ≡ true
Told key passed (Err fault) = (passed ≡ false) × (fault ≡ WrongType key)

told_part : {A : Type 0} (key : Key) (absent : A) (read : Data → Option A) (typed : Data → Bool) (o : Option Data) → ((v : Data) → typed v ≡ is_some (read v))
    → Told key (unwrap_or (option_map typed o) true) (or_absent key absent (option_map read o))
told_part key absent read typed None same = refl
told_part key absent read typed (Some v) same = by (read v) (same v)
  where
    by : (o : Option _) → typed v ≡ is_some o → Told key (typed v) (or_absent key absent (Some o))
    by None e = (e, refl)
    by (Some x) e = e

same_number : (o : Option ℤ) → is_some o ≡ is_some (option_map (λ z. Some z) o)
same_number None = refl
same_number (Some z) = refl

abbrev wrong : Members → List Key → Option ConstraintFault
wrong table keys = option_map (λ key. WrongType key) (find (λ key. not (is_well_typed table key)) keys)

abbrev refused : (B : Type 0) → ConstraintFault → Result B ConstraintFault
refused B fault = Err fault

abbrev given : ConstraintFault → Option ConstraintFault
given fault = Some fault

-- one key in front of others
first_told : {A B : Type 0} (table : Members) (key : Key) (keys : List Key) (r : Result A ConstraintFault) (f : A → Result B ConstraintFault) (fault : ConstraintFault)
    → Told key (is_well_typed table key) r → ((x : A) → (f x ≡ Err fault) ↔ (wrong table keys ≡ Some fault)) → ((r >>= f) ≡ Err fault) ↔ (wrong table (key ∷ keys) ≡ Some fault)
first_told table key keys (Ok x) f fault told more = rw told (more x)
first_told {B = B} table key keys (Err g) f fault told more = rw (told.0, told.1) (to, from)
  where
    to : refused B (WrongType key) ≡ refused B fault → given (WrongType key) ≡ given fault
    to e = ap (λ (h : ConstraintFault). Some h) (let same : WrongType key ≡ fault = cc in same)

    from : given (WrongType key) ≡ given fault → refused B (WrongType key) ≡ refused B fault
    from e = ap (λ (h : ConstraintFault). Err h) (let same : WrongType key ≡ fault = cc in same)

none_told : (file : ListedParts) (table : Members) (fault : ConstraintFault) → (Ok file ≡ Err fault) ↔ (wrong table [] ≡ Some fault)
none_told file table fault = (λ e. absurd cc, λ e. absurd cc)

abbrev read_number : Data → Option (Option ℤ)
read_number value = option_map (λ z. Some z) (as_integer value)

told_number : (key : Key) (table : Members) → Told key (unwrap_or (option_map (λ value. is_some (as_integer value)) (get_member (key_name key) table)) true) (number_at key table)
told_number key table = told_part key None read_number (λ value. is_some (as_integer value)) (get_member (key_name key) table) (λ v. same_number (as_integer v))

told_words : (table : Members) → Told Forbid (is_well_typed table Forbid) (words_at table)
told_words table =
    told_part Forbid [] (λ value. option_and_then texts_of (as_array value)) (λ value. is_some (option_and_then texts_of (as_array value)))
    (get_member (key_name Forbid) table) (λ v. refl)

told_edges : (table : Members) → Told Edges (is_well_typed table Edges) (edges_at table)
told_edges table =
    told_part Edges [] (λ value. option_and_then edges_of (as_array value)) (λ value. is_some (option_and_then edges_of (as_array value)))
    (get_member (key_name Edges) table) (λ v. refl)

pub types_told : (table : Members) (fault : ConstraintFault) → (listed_parts table ≡ Err fault) ↔ (wrong_type table ≡ Some fault)
types_told table fault =
    first_told table Alphabet (D ∷ K ∷ Forbid ∷ Edges ∷ []) (number_at Alphabet table) _ fault (told_number Alphabet table) (λ alphabet.
    first_told table D (K ∷ Forbid ∷ Edges ∷ []) (number_at D table) _ fault (told_number D table) (λ d.
    first_told table K (Forbid ∷ Edges ∷ []) (number_at K table) _ fault (told_number K table) (λ k.
    first_told table Forbid (Edges ∷ []) (words_at table) _ fault (told_words table) (λ forbid.
    first_told table Edges [] (edges_at table) _ fault (told_edges table) (λ edges.
    none_told (record { alphabet = alphabet; d = d; k = k; forbid = forbid; edges = edges }) table fault)))))

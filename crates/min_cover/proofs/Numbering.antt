-- The number of a raw state among those found.
use Rattle.std.proofs.Common.{◌≡◌, ◌≢◌, ◌⊎◌, ℕ, ◌+◌, ◌<◌, ◌≤◌, List, [], ◌∷◌, ◌++◌, length, get_or, slice_get, Option, Some, Bool, true, false, cond, nat_eq, inl, inr, refl, ap, sym, ◌∙◌, arith, length-append}
use Rattle.std.specs.Prelude.{◌&&◌}
use Rattle.std.specs.Cmp.Lexicographic.{pointwise}
use Rattle.std.specs.List.{list_any}
use Rattle.std.proofs.Math.Bool.{beq}
use Rattle.std.proofs.lemmas.Bool.{and_parts, and_from, cases_Bool, cases_lt, true≢false, eqb-true, eq-eqb}
use Rattle.std.proofs.lemmas.List.{get_or-map, get_or_append_left}
use Rattle.std.proofs.lemmas.List.Folds.{list_any_at}
use Rattle.std.proofs.lemmas.Option.{get_or_from_slice_get, slice_get_within}
use Rattle.std.specs.Option.{option_map}
use Rattle.min_cover.specs.inside.Raw.{step_raw}
use Rattle.indexmap.specs.IndexSet.{insert_key}
use Rattle.constraint_spec.specs.Constraint.{ConstraintData}
use Rattle.constraint_spec.specs.RawState.{RawState}
use Rattle.constraint_spec.specs.RawStateOf.{first_raw_state}
use Rattle.min_cover.specs.declared.raw_states.StateKey.{StateKey}
use Rattle.min_cover.specs.inside.States.{raw_of}
use Rattle.min_cover.specs.inside.Found.{raw_at, IsKnown, IsAdded}

-- the test of two keys
abbrev pub same_key : StateKey → StateKey → Bool
same_key a b =
    beq a.after_one b.after_one && (nat_eq a.zeros b.zeros && (pointwise nat_eq a.matched b.matched && pointwise nat_eq a.ends b.ends))

bool_same : (a b : Bool) → beq a b ≡ true → a ≡ b
bool_same true true e = refl
bool_same true false e = absurd (cc)
bool_same false true e = absurd (cc)
bool_same false false e = refl

bool_refl : (a : Bool) → beq a a ≡ true
bool_refl true = refl
bool_refl false = refl

pub list_same : (a b : List ℕ) → pointwise nat_eq a b ≡ true → a ≡ b
list_same [] [] e = refl
list_same [] (t ∷ b) e = absurd (cc)
list_same (s ∷ a) [] e = absurd (cc)
list_same (s ∷ a) (t ∷ b) e =
    let parts = and_parts (nat_eq s t) (pointwise nat_eq a b) e in
    ap (λ x. x ∷ a) (eqb-true s t parts.0) ∙ ap (λ x. t ∷ x) (list_same a b parts.1)

pub list_refl : (a : List ℕ) → pointwise nat_eq a a ≡ true
list_refl [] = refl
list_refl (s ∷ a) = and_from (nat_eq s s) (pointwise nat_eq a a) (eq-eqb s s refl) (list_refl a)

-- keys that pass the test stand for one raw state
key_raw : (a b : StateKey) → same_key a b ≡ true → raw_of a ≡ raw_of b
key_raw a b e =
    let one = and_parts (beq a.after_one b.after_one) (nat_eq a.zeros b.zeros && (pointwise nat_eq a.matched b.matched && pointwise nat_eq a.ends b.ends)) e in
    let two = and_parts (nat_eq a.zeros b.zeros) (pointwise nat_eq a.matched b.matched && pointwise nat_eq a.ends b.ends) one.1 in
    let three = and_parts (pointwise nat_eq a.matched b.matched) (pointwise nat_eq a.ends b.ends) two.1 in
    let after = bool_same a.after_one b.after_one one.0 in
    let zeros = eqb-true a.zeros b.zeros two.0 in
    let matched = list_same a.matched b.matched three.0 in
    let ends = list_same a.ends b.ends three.1 in
    let R : Type 0 = RawState in
    let first : raw_of a ≡ record { after_one = b.after_one; zeros = a.zeros; matched = a.matched; ends = a.ends } = ap (λ x. record { after_one = x; zeros = a.zeros; matched = a.matched; ends = a.ends }) after in
    first
    ∙ ap (λ x. record { after_one = b.after_one; zeros = x; matched = a.matched; ends = a.ends }) zeros
    ∙ ap (λ x. record { after_one = b.after_one; zeros = b.zeros; matched = x; ends = a.ends }) matched
    ∙ ap (λ x. record { after_one = b.after_one; zeros = b.zeros; matched = b.matched; ends = x }) ends

-- and keys of one raw state pass it
raw_key : (a b : StateKey) → raw_of a ≡ raw_of b → same_key a b ≡ true
raw_key a b e =
    let after : beq a.after_one b.after_one ≡ true = ap (λ (r : RawState). beq a.after_one r.after_one) (sym e) ∙ bool_refl a.after_one in
    let zeros : nat_eq a.zeros b.zeros ≡ true = eq-eqb a.zeros b.zeros (ap (λ (r : RawState). r.zeros) e) in
    let matched : pointwise nat_eq a.matched b.matched ≡ true = ap (λ (r : RawState). pointwise nat_eq a.matched r.matched) (sym e) ∙ list_refl a.matched in
    let ends : pointwise nat_eq a.ends b.ends ≡ true = ap (λ (r : RawState). pointwise nat_eq a.ends r.ends) (sym e) ∙ list_refl a.ends in
    and_from (beq a.after_one b.after_one) (nat_eq a.zeros b.zeros && (pointwise nat_eq a.matched b.matched && pointwise nat_eq a.ends b.ends)) after
    (and_from (nat_eq a.zeros b.zeros) (pointwise nat_eq a.matched b.matched && pointwise nat_eq a.ends b.ends) zeros
    (and_from (pointwise nat_eq a.matched b.matched) (pointwise nat_eq a.ends b.ends) matched ends))

-- the raw state at a place is that of the key there
pub raw_at_key : (c : ConstraintData) (keys : List StateKey) (i : ℕ) (d : StateKey) → i < length keys → raw_at c keys i ≡ raw_of (get_or keys i d)
raw_at_key c keys i d inside = get_or-map raw_of keys i d (first_raw_state c) inside

none_same : (c : ConstraintData) (old : List StateKey) (key : StateKey) → list_any (same_key key) old ≡ false → (i : ℕ) → i < length old
    → raw_at c old i ≢ raw_of key
none_same c old key none i inside same =
    let passes = raw_key key (get_or old i key) (sym (sym (raw_at_key c old i key inside) ∙ same)) in
    true≢false (sym (list_any_at (same_key key) old i key inside passes) ∙ none)

known_by : (c : ConstraintData) (old new : List StateKey) (key found : StateKey) (n : ℕ) → new ≡ old → n < length new
    → slice_get new n ≡ Some found → same_key key found ≡ true → IsKnown c old (raw_of key) new n
known_by c old new key found n same inside at passes =
    let place : n < length old = omega (arith, inside, ap (λ (l : List StateKey). length l) same) in
    record {
      same = same;
      inside = place;
      there = raw_at_key c old n key place ∙ ap (λ (l : List StateKey). raw_of (get_or l n key)) (sym same)
          ∙ ap raw_of (get_or_from_slice_get new n found key at) ∙ sym (key_raw key found passes);
    }

added_by : (c : ConstraintData) (old new : List StateKey) (key found : StateKey) (n : ℕ) → new ≡ old ++ key ∷ [] → n < length new
    → slice_get new n ≡ Some found → same_key key found ≡ true → list_any (same_key key) old ≡ false
    → IsAdded c old (raw_of key) new × (n ≡ length old)
added_by c old new key found n same inside at passes none =
    let size : length new ≡ length old + 1 = ap (λ (l : List StateKey). length l) same ∙ length-append old (key ∷ []) in
    let other = none_same c old key none in (
      record { key = key; joined = same; seen = refl; other = other },
      elim (cases_lt n (length old)) [
        | inl low ↦ absurd (other n low
            (raw_at_key c old n key low ∙ ap raw_of (sym (get_or_append_left old (key ∷ []) key n low))
            ∙ ap (λ (l : List StateKey). raw_of (get_or l n key)) (sym same)
            ∙ ap raw_of (get_or_from_slice_get new n found key at) ∙ sym (key_raw key found passes)))
        | inr high ↦ omega (arith, size, inside, high)
      ],
    )

-- a raw state that is put in was found before, or is a new one
pub numbers_raw : (c : ConstraintData) (old new : List StateKey) (key found : StateKey) (n : ℕ) → new ≡ insert_key same_key old key → n < length new
    → slice_get new n ≡ Some found → same_key key found ≡ true
    → IsKnown c old (raw_of key) new n ⊎ (IsAdded c old (raw_of key) new × (n ≡ length old))
numbers_raw c old new key found n put inside at passes = elim (cases_Bool (list_any (same_key key) old)) [
  | inl some ↦ inl (known_by c old new key found n (put ∙ ap (λ b. cond b old (old ++ key ∷ [])) some) inside at passes)
  | inr none ↦ inr (added_by c old new key found n (put ∙ ap (λ b. cond b old (old ++ key ∷ [])) none) inside at passes none)
]

-- with the bound of the search
pub numbers_within : (c : ConstraintData) (old : List StateKey) (raw : RawState) (new : List StateKey) (n : ℕ) → n < 4096
    → IsKnown c old raw new n ⊎ (IsAdded c old raw new × (n ≡ length old))
    → IsKnown c old raw new n ⊎ (IsAdded c old raw new × (n ≡ length old) × (n < 4096))
numbers_within c old raw new n few (inl known) = inl known
numbers_within c old raw new n few (inr added) = inr (added.0, added.1, few)

pub numbers_past : (c : ConstraintData) (old : List StateKey) (raw : RawState) (new : List StateKey) (n : ℕ) → 4096 ≤ n → length old ≤ 4096
    → IsKnown c old raw new n ⊎ (IsAdded c old raw new × (n ≡ length old)) → IsAdded c old raw new × (length old ≡ 4096)
numbers_past c old raw new n many fits (inl known) = let inside = known.inside in absurd (omega (arith, many, fits, inside))
numbers_past c old raw new n many fits (inr added) = let same = added.1 in (added.0, omega (arith, many, fits, same))

-- the raw state at a place, from the key that was read there
raw_at_read : (c : ConstraintData) (keys : List StateKey) (i : ℕ) (key : StateKey) → slice_get keys i ≡ Some key → raw_at c keys i ≡ raw_of key
raw_at_read c keys i key at =
    raw_at_key c keys i key (slice_get_within keys i key at) ∙ ap raw_of (get_or_from_slice_get keys i key key at)

-- the step from the key that was read there
pub step_read : (c : ConstraintData) (keys : List StateKey) (i symbol : ℕ) (key : StateKey) (next : Option StateKey) → slice_get keys i ≡ Some key
    → option_map raw_of next ≡ step_raw c (raw_of key) symbol → step_raw c (raw_at c keys i) symbol ≡ option_map raw_of next
step_read c keys i symbol key next at steps = ap (λ raw. step_raw c raw symbol) (raw_at_read c keys i key at) ∙ sym steps

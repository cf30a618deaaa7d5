-- The names of states: those that edges mention, in order of first mention.
use Rattle.std.proofs.Common.{◌≡◌, ℕ, ◌+◌, ◌<◌, ◌≤◌, Bool, true, false, List, [], ◌∷◌, ◌++◌, length, fold, slice_get, Some, inl, inr, refl, sym, ap, ◌∙◌, subst, arith, Contains, bytes_eq, append_assoc}
use Rattle.std.specs.Prelude.{if◌then◌else◌}
use Rattle.std.specs.List.{list_any, position_or_len}
use Rattle.std.proofs.lemmas.Bool.{false≢true}
use Rattle.std.proofs.Math.Numerals.{one-add}
use Rattle.std.proofs.lemmas.List.{append-nil}
use Rattle.std.proofs.lemmas.List.Elements.{Contains-append_left, Contains-append_right, Contains-push_cases}
use Rattle.std.proofs.lemmas.Slice.Eq.{bytes_eq-Decides}
use Rattle.symbol_base.specs.Ascending.{IsAscending}
use Rattle.constraint_file_spec.specs.declared.file.ListedEdge.{ListedEdge}
use Rattle.constraint_file_spec.specs.Refusals.{mentions, state_names}
use Rattle.constraint_file_spec.specs.ConstraintFile.{IsAscendingOf}
use Rattle.constraint_file_spec.specs.Laws.{IsMentionedBefore}
use Rattle.constraint_file_spec.proofs.Ascending.{first_or_rest, contains_first, contains_rest, ascending_in, ascending_push, one_place}

abbrev pub Has : List (List ℕ) → List ℕ → Type 0
Has names name = list_any (bytes_eq name) names ≡ true

abbrev mention : List (List ℕ) → List ℕ → List (List ℕ)
mention known name = if list_any (bytes_eq name) known then known else known ++ name ∷ []

same_bytes : (name : List ℕ) → bytes_eq name name ≡ true
same_bytes name = (bytes_eq-Decides name name).1 refl

pub has_position : (names : List (List ℕ)) (name : List ℕ) → Has names name → position_or_len (bytes_eq name) names < length names
has_position [] name h = absurd (false≢true h)
has_position (n ∷ names) name h = by (bytes_eq name n) refl (has_position names name)
  where
    by : (b : Bool) → bytes_eq name n ≡ b → (Has names name → position_or_len (bytes_eq name) names < length names) → position_or_len (bytes_eq name) (n ∷ names) < length (n ∷ names)
    by true e more = rw e (omega arith)
    by false e more = rw e (let rest : position_or_len (bytes_eq name) names < length names = more (rw e at h) in omega arith)

has_front : (names : List (List ℕ)) (other name : List ℕ) → Has names name → Has (names ++ other ∷ []) name
has_front [] other name h = absurd (false≢true h)
has_front (n ∷ names) other name h = by (bytes_eq name n) refl (has_front names other name)
  where
    by : (b : Bool) → bytes_eq name n ≡ b → (Has names name → Has (names ++ other ∷ []) name) → Has ((n ∷ names) ++ other ∷ []) name
    by true e more = rw e
    by false e more = rw e (more (rw e at h))

has_last : (names : List (List ℕ)) (name : List ℕ) → Has (names ++ name ∷ []) name
has_last [] name = rw (same_bytes name)
has_last (n ∷ names) name = by (bytes_eq name n) refl (has_last names name)
  where
    by : (b : Bool) → bytes_eq name n ≡ b → Has (names ++ name ∷ []) name → Has ((n ∷ names) ++ name ∷ []) name
    by true e more = rw e
    by false e more = rw e more

mention_keeps : (names : List (List ℕ)) (other name : List ℕ) → Has names name → Has (mention names other) name
mention_keeps names other name h = by (list_any (bytes_eq other) names)
  where
    by : (b : Bool) → Has (if b then names else names ++ other ∷ []) name
    by true = h
    by false = has_front names other name h

mention_has : (names : List (List ℕ)) (name : List ℕ) → Has (mention names name) name
mention_has names name = by (list_any (bytes_eq name) names) refl
  where
    by : (b : Bool) → list_any (bytes_eq name) names ≡ b → Has (if b then names else names ++ name ∷ []) name
    by true e = e
    by false e = has_last names name

all_keep : (more names : List (List ℕ)) (name : List ℕ) → Has names name → Has (fold mention names more) name
all_keep [] names name h = h
all_keep (m ∷ more) names name h = all_keep more (mention names m) name (mention_keeps names m name h)

all_have : (more names : List (List ℕ)) (name : List ℕ) → Contains more name → Has (fold mention names more) name
all_have [] names name found = absurd (omega (arith, found.1))
all_have (m ∷ more) names name found = elim (first_or_rest m more name found) [
  | inl same ↦ all_keep more (mention names m) name (subst (λ (n : List ℕ). Has (mention names m) n) (sym same) (mention_has names m))
  | inr rest ↦ all_have more (mention names m) name rest
]

mentioned : (edges : List ListedEdge) (e : ListedEdge) → Contains edges e → Contains (mentions edges) e.from × Contains (mentions edges) e.to
mentioned [] e found = absurd (omega (arith, found.1))
mentioned (d ∷ edges) e found = elim (first_or_rest d edges e found) [
  | inl same ↦ subst (λ (x : ListedEdge). Contains (mentions (d ∷ edges)) x.from × Contains (mentions (d ∷ edges)) x.to) (sym same)
      (contains_first d.from (d.to ∷ mentions edges), contains_rest d.from (d.to ∷ mentions edges) d.to (contains_first d.to (mentions edges)))
  | inr rest ↦ (let both = mentioned edges e rest in (
    contains_rest d.from (d.to ∷ mentions edges) e.from (contains_rest d.to (mentions edges) e.from both.0),
    contains_rest d.from (d.to ∷ mentions edges) e.to (contains_rest d.to (mentions edges) e.to both.1),
  ))
]

-- both names of a listed edge have numbers below the number of states
pub numbers_below : (edges : List ListedEdge) (e : ListedEdge) → Contains edges e
    → (position_or_len (bytes_eq e.from) (state_names edges) < length (state_names edges)) × (position_or_len (bytes_eq e.to) (state_names edges) < length (state_names edges))
numbers_below edges e found = let both = mentioned edges e found in (
  has_position (state_names edges) e.from (all_have (mentions edges) [] e.from both.0),
  has_position (state_names edges) e.to (all_have (mentions edges) [] e.to both.1),
)

-- ---- the order of first mention

has_contains : (names : List (List ℕ)) (name : List ℕ) → Has names name → Contains names name
has_contains [] name h = absurd (false≢true h)
has_contains (n ∷ names) name h = by (bytes_eq name n) refl (has_contains names name)
  where
    by : (b : Bool) → bytes_eq name n ≡ b → (Has names name → Contains names name) → Contains (n ∷ names) name
    by true e more = subst (λ (v : List ℕ). Contains (n ∷ names) v) (sym ((bytes_eq-Decides name n).0 e)) (contains_first n names)
    by false e more = contains_rest n names name (more (rw e at h))

contains_has : (names : List (List ℕ)) (name : List ℕ) → Contains names name → Has names name
contains_has [] name found = absurd (omega (arith, found.1))
contains_has (n ∷ names) name found = elim (first_or_rest n names name found) [
  | inl same ↦ subst (λ (v : List ℕ). Has (n ∷ names) v) (sym same) (rw (same_bytes n))
  | inr rest ↦ by (bytes_eq name n) refl (contains_has names name rest)
]
  where
    by : (b : Bool) → bytes_eq name n ≡ b → Has names name → Has (n ∷ names) name
    by true e more = rw e
    by false e more = rw e more

-- the place of a name is the same however the list goes on, and a new name is put behind
place_kept : (names more : List (List ℕ)) (name : List ℕ) → Has names name
    → position_or_len (bytes_eq name) (names ++ more) ≡ position_or_len (bytes_eq name) names
place_kept [] more name h = absurd (false≢true h)
place_kept (n ∷ names) more name h = by (bytes_eq name n) refl (place_kept names more name)
  where
    by : (b : Bool) → bytes_eq name n ≡ b
        → (Has names name → position_or_len (bytes_eq name) (names ++ more) ≡ position_or_len (bytes_eq name) names)
        → position_or_len (bytes_eq name) ((n ∷ names) ++ more) ≡ position_or_len (bytes_eq name) (n ∷ names)
    by true e rest = rw e
    by false e rest = rw e (ap (λ (i : ℕ). 1 + i) (rest (rw e at h)))

place_new : (names : List (List ℕ)) (name : List ℕ) → list_any (bytes_eq name) names ≡ false
    → length names ≤ position_or_len (bytes_eq name) (names ++ name ∷ [])
place_new [] name h = omega arith
place_new (n ∷ names) name h = by (bytes_eq name n) refl (place_new names name)
  where
    by : (b : Bool) → bytes_eq name n ≡ b
        → (list_any (bytes_eq name) names ≡ false → length names ≤ position_or_len (bytes_eq name) (names ++ name ∷ []))
        → length (n ∷ names) ≤ position_or_len (bytes_eq name) ((n ∷ names) ++ name ∷ [])
    by true e rest = absurd (false≢true (sym (rw e at h)))
    by false e rest = rw e (let more = rest (rw e at h) in omega arith)

-- the names so far are those mentioned so far, in order
abbrev InOrder : List (List ℕ) → List (List ℕ) → Type 0
InOrder done names = IsAscendingOf (IsMentionedBefore done) done names

in_order_kept : (done names : List (List ℕ)) (name : List ℕ) → InOrder done names → IsAscending (IsMentionedBefore (done ++ name ∷ [])) names
in_order_kept done names name order =
    ascending_in (IsMentionedBefore done) (IsMentionedBefore (done ++ name ∷ [])) names order.order (λ x y hx hy before.
    let px = place_kept done (name ∷ []) x (contains_has done x ((order.items x).0 hx)) in
    let py = place_kept done (name ∷ []) y (contains_has done y ((order.items y).0 hy)) in
    omega (arith, px, py, before))

one_mention : (done names : List (List ℕ)) (name : List ℕ) → InOrder done names → InOrder (done ++ name ∷ []) (mention names name)
one_mention done names name order = by (list_any (bytes_eq name) names) refl
  where
    known : Has names name → (z : List ℕ) → Contains (done ++ name ∷ []) z → Contains names z
    known h z there = elim (Contains-push_cases done name z there) [
      | inl before ↦ (order.items z).1 before
      | inr same ↦ subst (λ (v : List ℕ). Contains names v) same (has_contains names name h)
    ]

    last : list_any (bytes_eq name) names ≡ false → (x : List ℕ) → Contains names x → IsMentionedBefore (done ++ name ∷ []) x name
    last none x there =
        let has = contains_has done x ((order.items x).0 there) in
        let absent : list_any (bytes_eq name) done ≡ false = new_in done none in
        omega (arith, place_kept done (name ∷ []) x has, has_position done x has, place_new done name absent)
      where
        new_in : (ds : List (List ℕ)) → list_any (bytes_eq name) names ≡ false → list_any (bytes_eq name) done ≡ false
        new_in ds none = of (list_any (bytes_eq name) done) refl
          where
            of : (b : Bool) → list_any (bytes_eq name) done ≡ b → b ≡ false
            of true e = absurd (false≢true (sym none ∙ contains_has names name ((order.items name).1 (has_contains done name e))))
            of false e = refl

    by : (b : Bool) → list_any (bytes_eq name) names ≡ b → InOrder (done ++ name ∷ []) (if b then names else names ++ name ∷ [])
    by true h = record {
      order = in_order_kept done names name order;
      items = λ z. (λ there. Contains-append_left done (name ∷ []) z ((order.items z).0 there), known h z);
    }
    by false h = record {
      order = ascending_push (IsMentionedBefore (done ++ name ∷ [])) names name (in_order_kept done names name order) (last h);
      items = λ z. (
        λ there. elim (Contains-push_cases names name z there) [
          | inl before ↦ Contains-append_left done (name ∷ []) z ((order.items z).0 before)
          | inr same ↦ Contains-append_right done (name ∷ []) z (subst (λ (v : List ℕ). Contains (name ∷ []) v) same (contains_first name []))
        ],
        λ there. elim (Contains-push_cases done name z there) [
          | inl before ↦ Contains-append_left names (name ∷ []) z ((order.items z).1 before)
          | inr same ↦ Contains-append_right names (name ∷ []) z (subst (λ (v : List ℕ). Contains (name ∷ []) v) same (contains_first name []))
        ],
      );
    }

all_mentions : (more done names : List (List ℕ)) → InOrder done names → InOrder (done ++ more) (fold mention names more)
all_mentions [] done names order = subst (λ (l : List (List ℕ)). InOrder l names) (sym (append-nil done)) order
all_mentions (m ∷ more) done names order =
    subst (λ (l : List (List ℕ)). InOrder l (fold mention (mention names m) more)) (append_assoc done (m ∷ []) more)
    (all_mentions more (done ++ m ∷ []) (mention names m) (one_mention done names m order))

pub mentioned_in_order : (edges : List ListedEdge) → IsAscendingOf (IsMentionedBefore (mentions edges)) (mentions edges) (state_names edges)
mentioned_in_order edges = all_mentions (mentions edges) [] [] (record { order = tt; items = λ z. (λ h. h, λ h. h) })

-- no name stands at two places
pub named_once : (edges : List ListedEdge) (name : List ℕ) (i j : ℕ)
    → slice_get (state_names edges) i ≡ Some name → slice_get (state_names edges) j ≡ Some name → i ≡ j
named_once edges name i j at also =
    one_place (IsMentionedBefore (mentions edges)) (λ x h. omega (arith, h)) (λ x y z h k. omega (arith, h, k)) (state_names edges) i j name
    (mentioned_in_order edges).order at also

-- a name stands at its number
at_position : (names : List (List ℕ)) (name : List ℕ) → Has names name → slice_get names (position_or_len (bytes_eq name) names) ≡ Some name
at_position [] name h = absurd (false≢true h)
at_position (n ∷ names) name h = by (bytes_eq name n) refl (at_position names name)
  where
    by : (b : Bool) → bytes_eq name n ≡ b → (Has names name → slice_get names (position_or_len (bytes_eq name) names) ≡ Some name)
        → slice_get (n ∷ names) (position_or_len (bytes_eq name) (n ∷ names)) ≡ Some name
    by true e more = rw e (ap Some (sym ((bytes_eq-Decides name n).0 e)))
    by false e more = rw (e, one-add (position_or_len (bytes_eq name) names)) (more (rw e at h))

pub numbers_are_places : (edges : List ListedEdge) (e : ListedEdge) → Contains edges e
    → (slice_get (state_names edges) (position_or_len (bytes_eq e.from) (state_names edges)) ≡ Some e.from)
    × (slice_get (state_names edges) (position_or_len (bytes_eq e.to) (state_names edges)) ≡ Some e.to)
numbers_are_places edges e found = let both = mentioned edges e found in (
  at_position (state_names edges) e.from (all_have (mentions edges) [] e.from both.0),
  at_position (state_names edges) e.to (all_have (mentions edges) [] e.to both.1),
)

-- The test of what may follow a word, and the test of a word from symbol to symbol.
use Rattle.std.proofs.Common.{◌≡◌, ◌≢◌, ◌↔◌, ℕ, ◌<◌, List, [], ◌∷◌, ◌++◌, Option, Some, None, IfSome, Bool, true, false, length, refl, ap, sym, subst, arith, append_assoc, append-nil}
use Rattle.std.specs.Prelude.{◌&&◌, ◌||◌, not, nat_eq, nat_le}
use Rattle.std.specs.Bool.{Decides}
use Rattle.std.specs.List.{Any, Contains, list_any, ends_with}
use Rattle.std.proofs.lemmas.Bool.{true≢false, ltb-true, lt-ltb, leb-true, le-leb, eqb-true}
use Rattle.std.proofs.lemmas.Bool.Decides.{Decides-and, Decides-eqb, Decides-ltb, Decides-like, Decides-not}
use Rattle.std.proofs.lemmas.List.Folds.{Any-from_list_any, list_any-from_Any}
use Rattle.std.proofs.lemmas.Slice.Eq.{ends_is}
use Rattle.constraint_spec.specs.Word.{IsSuffix}
use Rattle.constraint_spec.specs.Walk.{HasEdge}
use Rattle.constraint_spec.specs.Constraint.{ConstraintData, IsWordOf}
use Rattle.constraint_spec.specs.Ranges.{IsConstraint}
use Rattle.constraint_spec.specs.RawState.{RawState, IsRawStateOf, MayFollow}
use Rattle.constraint_spec.specs.RawStateOf.{next_raw_state, first_raw_state, is_below, may_follow}
use Rattle.constraint_spec.proofs.Factors.{IsFactor-front}
use Rattle.constraint_spec.proofs.Words.{IsWordOf-factor, IsWordOf-nil}
use Rattle.constraint_spec.proofs.Ends.{Contains-led, edge_inside}
use Rattle.constraint_spec.proofs.RawStates.{raw_state_of_word, next_is_raw_state}
use Rattle.constraint_spec.proofs.Following.{IsWordOf-push}

-- the test that one thing holds where another does
Decides-then : {P Q : Type 0} (a b : Bool) → Decides a P → Decides b Q → Decides (not a || b) (P → Q)
Decides-then true b first second = ((λ yes p. second.0 yes), (λ then. second.1 (then (first.0 refl))))
Decides-then false b first second = ((λ yes p. absurd (true≢false (sym (first.1 p)))), (λ then. refl))

Decides-below : (n : ℕ) (k : Option ℕ) → Decides (is_below n k) (IfSome k (λ k. n < k))
Decides-below n None = ((λ yes. tt), (λ none. refl))
Decides-below n (Some k) = (ltb-true n k, lt-ltb n k)

-- a forbidden word ends a word
abbrev EndsForbidden : List (List ℕ) → List ℕ → Type 0
EndsForbidden forbid w = Any (λ v. IsSuffix v w) forbid

Decides-ends :
    (forbid : List (List ℕ)) (w : List ℕ)
    → Decides (list_any (ends_with nat_eq w) forbid) (EndsForbidden forbid w)
Decides-ends forbid w =
    let tested = λ (v : List ℕ). ends_is Decides-eqb w v (ends_with nat_eq w v) refl in (
      (λ yes.
          let found = Any-from_list_any (ends_with nat_eq w) forbid yes in
          (found.0, found.1, found.2, found.3, record { before = _; joined = (tested found.1).0 found.4 })),
      (λ some. list_any-from_Any (ends_with nat_eq w) forbid
          (some.0, some.1, some.2, some.3, (tested some.1).1 some.4.before some.4.joined)),
    )

-- the test that none does
Decides-free :
    (forbid : List (List ℕ)) (w : List ℕ)
    → Decides (not (list_any (ends_with nat_eq w) forbid)) ((v : List ℕ) → Contains forbid v → IsSuffix v w → ⊥)
Decides-free forbid w =
    Decides-like (not (list_any (ends_with nat_eq w) forbid))
    (λ none v listed end. none (listed.0, v, listed.1, listed.2, end))
    (λ free some. free some.1 (some.0, some.2, some.3) some.4)
    (Decides-not (list_any (ends_with nat_eq w) forbid) (Decides-ends forbid w))

-- the test that a list has no item
Decides-empty : {X : Type 0} (xs : List X) → Decides (nat_eq (length xs) 0) (xs ≡ [])
Decides-empty [] = ((λ yes. refl), (λ none. refl))
Decides-empty (x ∷ xs) =
    ((λ yes. absurd (let none = eqb-true (length (x ∷ xs)) 0 yes in omega arith)), (λ none. absurd (cc)))

-- a list with an item, or an item of a list
some_listed : (xs : List ℕ) → xs ≢ [] → (x : ℕ) × Contains xs x
some_listed [] some = absurd (some refl)
some_listed (x ∷ xs) some = (x, (0, omega arith, refl))

listed_some : (xs : List ℕ) (x : ℕ) → Contains xs x → xs ≢ []
listed_some xs x found none = omega (arith, found.1, ap (λ (xs : List ℕ). length xs) none)

-- the test that walks go on
Decides-led :
    (c : ConstraintData) (raw : RawState) (symbol : ℕ) → IsConstraint c
    → Decides (not (nat_eq (length (next_raw_state c raw symbol).ends) 0))
    ((from : ℕ) × (to : ℕ) × Contains raw.ends from × HasEdge c.edges from symbol to)
Decides-led c raw symbol ranges =
    let ends = (next_raw_state c raw symbol).ends in
    Decides-like (not (nat_eq (length ends) 0))
    (λ some.
    let end = some_listed ends some in
    let way = (Contains-led c.edges c.states raw.ends symbol end.0).0 end.1 in
    (way.1, end.0, way.2, way.3))
    (λ way.
    let inside = (edge_inside c way.0 symbol way.1 ranges way.3).1 in
    listed_some ends way.1 ((Contains-led c.edges c.states raw.ends symbol way.1).1 (inside, way.0, way.2, way.3)))
    (Decides-not (nat_eq (length ends) 0) (Decides-empty ends))

by_empty : {P Q : Type 0} (a b : Bool) → Decides a P → Decides b Q → Decides (a || b) ((P → ⊥) → Q)
by_empty true b first second = ((λ yes given. absurd (given (first.0 refl))), (λ then. refl))
by_empty false b first second = (
  (λ yes given. second.0 yes),
  (λ then. second.1 (then (λ p. true≢false (sym (first.1 p))))),
)

Decides-true : (b : Bool) → Decides b (b ≡ true)
Decides-true b = ((λ yes. yes), (λ yes. yes))

Decides-walked :
    (c : ConstraintData) (raw : RawState) (symbol : ℕ) → IsConstraint c
    → Decides (nat_eq (length c.edges) 0 || not (nat_eq (length (next_raw_state c raw symbol).ends) 0))
    (c.edges ≢ [] → (from : ℕ) × (to : ℕ) × Contains raw.ends from × HasEdge c.edges from symbol to)
Decides-walked c raw symbol ranges =
    by_empty (nat_eq (length c.edges) 0) (not (nat_eq (length (next_raw_state c raw symbol).ends) 0))
    (Decides-empty c.edges) (Decides-led c raw symbol ranges)

-- the test of what may follow
pub Decides-may_follow :
    (c : ConstraintData) (raw : RawState) (symbol : ℕ) → IsConstraint c → (may_follow c raw symbol ≡ true) ↔ MayFollow c raw symbol
Decides-may_follow c raw symbol ranges =
    let inside = Decides-ltb symbol c.alphabet in
    let one = Decides-then (nat_eq symbol 1) (not raw.after_one || nat_le c.d raw.zeros) (Decides-eqb symbol 1)
    (Decides-then raw.after_one (nat_le c.d raw.zeros) (Decides-true raw.after_one) (leb-true c.d raw.zeros, le-leb c.d raw.zeros)) in
    let zero = Decides-then (nat_eq symbol 0) (is_below raw.zeros c.k) (Decides-eqb symbol 0) (Decides-below raw.zeros c.k) in
    let free = Decides-free c.forbid (raw.matched ++ symbol ∷ []) in
    let walked = Decides-walked c raw symbol ranges in
    let parts = Decides-and _ _ inside (Decides-and _ _ one (Decides-and _ _ zero (Decides-and _ _ free walked))) in (
      (λ yes.
          let all = parts.0 yes in
          record { inside = all.0; one = all.1.0; zero = all.1.1.0; forbidden = all.1.1.1.0; walked = all.1.1.1.1 }),
      (λ may. parts.1 (may.inside, (may.one, (may.zero, (may.forbidden, may.walked))))),
    )

-- whether each symbol may follow those before it, from a raw state on
abbrev pub may_be_read : ConstraintData → RawState → List ℕ → Bool
may_be_read c raw [] = true
may_be_read c raw (symbol ∷ w) = may_follow c raw symbol && may_be_read c (next_raw_state c raw symbol) w

reads_by :
    (c : ConstraintData) (u : List ℕ) (symbol : ℕ) (w : List ℕ) (a b : Bool) → (a ≡ true → IsWordOf c (u ++ symbol ∷ []))
    → (IsWordOf c (u ++ symbol ∷ []) → a ≡ true)
    → (IsWordOf c (u ++ symbol ∷ []) → Decides b (IsWordOf c ((u ++ symbol ∷ []) ++ w)))
    → Decides (a && b) (IsWordOf c (u ++ symbol ∷ w))
reads_by c u symbol w true b longer back rest =
    let whole = append_assoc u (symbol ∷ []) w in
    let told = rest (longer refl) in (
      (λ yes. subst (λ w. IsWordOf c w) whole (told.0 yes)),
      (λ all. told.1 (subst (λ w. IsWordOf c w) (sym whole) all)),
    )
reads_by c u symbol w false b longer back rest =
    let whole = append_assoc u (symbol ∷ []) w in (
      (λ yes. absurd (true≢false (sym yes))),
      (λ all.
          let front = IsWordOf-factor c (u ++ symbol ∷ []) ((u ++ symbol ∷ []) ++ w) (subst (λ w. IsWordOf c w) (sym whole) all)
          (IsFactor-front (u ++ symbol ∷ []) w) in
          absurd (true≢false (sym (back front)))),
    )

-- what may be read behind a word makes a word
reads_behind :
    (c : ConstraintData) (u w : List ℕ) (raw : RawState) → IsConstraint c → IsRawStateOf c u raw → IsWordOf c u
    → Decides (may_be_read c raw w) (IsWordOf c (u ++ w))
reads_behind c u [] raw ranges known word =
    ((λ yes. subst (λ w. IsWordOf c w) (sym (append-nil u)) word), (λ all. refl))
reads_behind c u (symbol ∷ w) raw ranges known word =
    let law = IsWordOf-push c u raw symbol ranges known in
    let tested = Decides-may_follow c raw symbol ranges in
    let next = next_raw_state c raw symbol in
    let rest = λ (longer : IsWordOf c (u ++ symbol ∷ [])).
    reads_behind c (u ++ symbol ∷ []) w next ranges (next_is_raw_state c u raw symbol ranges known) longer in
    reads_by c u symbol w (may_follow c raw symbol) (may_be_read c next w)
    (λ yes. law.1 (word, tested.0 yes)) (λ longer. tested.1 (law.0 longer).1) rest

-- the test of a word from symbol to symbol
pub Decides-word :
    (c : ConstraintData) (w : List ℕ) → IsConstraint c
    → Decides (may_be_read c (first_raw_state c) w) (IsWordOf c w)
Decides-word c w ranges =
    reads_behind c [] w (first_raw_state c) ranges (raw_state_of_word c [] ranges) (IsWordOf-nil c ranges)

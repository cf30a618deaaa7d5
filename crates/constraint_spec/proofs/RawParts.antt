-- How each part of a raw state goes on with one more symbol.
use Rattle.std.proofs.Common.{◌≡◌, ◌↔◌, ℕ, zero, suc, ◌≤◌, List, [], ◌∷◌, ◌++◌, inl, inr, Bool, true, false, length, replicate, cond, ◌⊎◌, refl, ap, sym, subst, arith}
use Rattle.std.specs.Prelude.{nat_eq}
use Rattle.std.specs.List.{starts_with}
use Rattle.std.proofs.lemmas.Bool.{both_ways, true≢false}
use Rattle.std.proofs.lemmas.Bool.Decides.{Decides-eqb}
use Rattle.std.proofs.lemmas.List.Folds.{Any-from_list_any, list_any-from_Any}
use Rattle.std.proofs.lemmas.Slice.Eq.{starts_is}
use Rattle.constraint_spec.specs.Word.{IsPrefix, IsSuffix}
use Rattle.constraint_spec.specs.RawState.{BeginsForbidden, IsLongestMatch}
use Rattle.constraint_spec.specs.RawStateOf.{next_after_one, next_zeros, begins_forbidden, longest_match}
use Rattle.constraint_spec.proofs.Suffixes.{IsSuffix-nil, IsSuffix-same, IsSuffix-cons, IsSuffix-trans, IsSuffix-length, IsSuffix-cons_cases, IsSuffix-nested, suffix_of_nothing, suffix_more, suffix_less, last_of, IsPrefix-front, zeros_push}

-- the word ends with a 1 and some 0s behind it
abbrev EndsWithOne : List ℕ → Type 0
EndsWithOne w = (zeros : ℕ) × IsSuffix (1 ∷ replicate zeros 0) w

one_before_zero : (zeros : ℕ) (w : List ℕ) → IsSuffix (1 ∷ replicate zeros 0) (w ++ 0 ∷ []) → EndsWithOne w
one_before_zero zero w end = absurd (let same = suffix_less [] w 1 0 end in cc)
one_before_zero (suc zeros) w end =
    let split = subst (λ run. IsSuffix (1 ∷ run) (w ++ 0 ∷ [])) (sym (zeros_push zeros)) end in
    (zeros, (suffix_less (1 ∷ replicate zeros 0) w 0 0 split).0)

no_one_before :
    (zeros other : ℕ) (w : List ℕ) → IsSuffix (1 ∷ replicate zeros 0) (w ++ suc (suc other) ∷ []) → ⊥
no_one_before zero other w end = let same = suffix_less [] w 1 (suc (suc other)) end in cc
no_one_before (suc zeros) other w end =
    let split = subst (λ run. IsSuffix (1 ∷ run) (w ++ suc (suc other) ∷ [])) (sym (zeros_push zeros)) end in
    let same = suffix_less (1 ∷ replicate zeros 0) w 0 (suc (suc other)) split in cc

-- whether the last symbol other than 0 is a 1 goes on
pub after_one_more :
    (before : Bool) (w : List ℕ) (symbol : ℕ) → (before ≡ true) ↔ EndsWithOne w
    → (next_after_one before symbol ≡ true) ↔ EndsWithOne (w ++ symbol ∷ [])
after_one_more before w zero known = (
  (λ yes.
      let one = known.0 yes in
      (suc one.0, subst (λ run. IsSuffix (1 ∷ run) (w ++ 0 ∷ [])) (zeros_push one.0) (suffix_more (1 ∷ replicate one.0 0) w 0 one.1))),
  (λ one. known.1 (one_before_zero one.0 w one.1)),
)
after_one_more before w (suc zero) known = ((λ yes. (0, record { before = w; joined = refl })), (λ one. refl))
after_one_more before w (suc (suc symbol)) known =
    ((λ yes. absurd (true≢false (sym yes))), (λ one. absurd (no_one_before one.0 symbol w one.1)))

zeros_by :
    (limit run : ℕ) (w : List ℕ) (symbol count : ℕ)
    → ((count : ℕ) → (count ≤ run) ↔ ((count ≤ limit) × IsSuffix (replicate count 0) w))
    → (count ≤ next_zeros limit run symbol) ↔ ((count ≤ limit) × IsSuffix (replicate count 0) (w ++ symbol ∷ []))
zeros_by limit run w symbol zero known =
    ((λ fits. (omega arith, IsSuffix-nil (w ++ symbol ∷ []))), (λ some. omega arith))
zeros_by limit run w zero (suc count) known = (
  (λ fits.
      let before = (known count).0 (omega arith) in
      (omega arith, subst (λ end. IsSuffix end (w ++ 0 ∷ [])) (zeros_push count) (suffix_more (replicate count 0) w 0 before.1))),
  (λ some.
      let split = subst (λ end. IsSuffix end (w ++ 0 ∷ [])) (sym (zeros_push count)) some.1 in
      let before = (known count).1 (omega (arith, some.0), (suffix_less (replicate count 0) w 0 0 split).0) in
      omega (arith, before, some.0)),
)
zeros_by limit run w (suc symbol) (suc count) known = (
  (λ fits. absurd (omega (arith, fits))),
  (λ some.
      let split = subst (λ end. IsSuffix end (w ++ suc symbol ∷ [])) (sym (zeros_push count)) some.1 in
      let same = suffix_less (replicate count 0) w 0 (suc symbol) split in absurd (let e = same.1 in cc)),
)

-- the count of 0s goes on
pub zeros_more :
    (limit run : ℕ) (w : List ℕ) (symbol : ℕ)
    → ((count : ℕ) → (count ≤ run) ↔ ((count ≤ limit) × IsSuffix (replicate count 0) w)) → (count : ℕ)
    → (count ≤ next_zeros limit run symbol) ↔ ((count ≤ limit) × IsSuffix (replicate count 0) (w ++ symbol ∷ []))
zeros_more limit run w symbol known count = zeros_by limit run w symbol count known

starts_prefix : (w v : List ℕ) → (starts_with nat_eq w v ≡ true) ↔ IsPrefix v w
starts_prefix w v =
    let tested = starts_is Decides-eqb w v (starts_with nat_eq w v) refl in
    ((λ yes. record { after = _; joined = tested.0 yes }), (λ begins. tested.1 begins.after begins.joined))

-- the test whether a forbidden word begins with v
pub begins_tested :
    (forbid : List (List ℕ)) (v : List ℕ) → (begins_forbidden forbid v ≡ true) ↔ BeginsForbidden forbid v
begins_tested forbid v = (
  (λ yes.
      let found = Any-from_list_any (λ w. starts_with nat_eq w v) forbid yes in
      (found.0, found.1, found.2, found.3, (starts_prefix found.1 v).0 found.4)),
  (λ some. list_any-from_Any (λ w. starts_with nat_eq w v) forbid
      (some.0, some.1, some.2, some.3, (starts_prefix some.1 v).1 some.4)),
)

-- where a forbidden word begins with a word, it begins with each prefix of that
begins_less :
    (forbid : List (List ℕ)) (v u : List ℕ) → BeginsForbidden forbid (v ++ u) → BeginsForbidden forbid v
begins_less forbid v u some = (some.0, some.1, some.2, some.3, IsPrefix-front v u some.1 some.4)

match_by :
    (forbid : List (List ℕ)) (symbol : ℕ) (w : List ℕ) (b : Bool) → begins_forbidden forbid (symbol ∷ w) ≡ b
    → IsLongestMatch forbid w (longest_match forbid w)
    → IsLongestMatch forbid (symbol ∷ w) (cond b (symbol ∷ w) (longest_match forbid w))
match_by forbid symbol w true begins rest = record {
  suffix = IsSuffix-same (symbol ∷ w);
  begins = λ some. (begins_tested forbid (symbol ∷ w)).0 begins;
  longest = λ v end begun. IsSuffix-length v (symbol ∷ w) end;
}
match_by forbid symbol w false begins rest = record {
  suffix = IsSuffix-cons (longest_match forbid w) symbol w rest.suffix;
  begins = rest.begins;
  longest = λ v end begun. elim (IsSuffix-cons_cases v symbol w end) [
    | inl whole ↦ absurd (both_ways _ begins ((begins_tested forbid (symbol ∷ w)).1 (subst (λ v. BeginsForbidden forbid v) whole begun)))
    | inr behind ↦ rest.longest v behind begun
  ];
}

-- the longest match of a word is what is found
pub match_found : (forbid : List (List ℕ)) (w : List ℕ) → IsLongestMatch forbid w (longest_match forbid w)
match_found forbid [] = record {
  suffix = IsSuffix-same [];
  begins = λ some. absurd (some refl);
  longest = λ v end begun. omega (arith, ap (λ (v : List ℕ). length v) (suffix_of_nothing v end));
}
match_found forbid (symbol ∷ w) =
    match_by forbid symbol w (begins_forbidden forbid (symbol ∷ w)) refl (match_found forbid w)

longest_by :
    (forbid : List (List ℕ)) (w matched next v : List ℕ) (symbol : ℕ) → IsLongestMatch forbid w matched
    → IsLongestMatch forbid (matched ++ symbol ∷ []) next → IsSuffix v (w ++ symbol ∷ [])
    → BeginsForbidden forbid v
    → (v ≡ []) ⊎ ((front : List ℕ) × (last : ℕ) × (v ≡ front ++ last ∷ [])) → length v ≤ length next
longest_by forbid w matched next v symbol before now end begun (inl none) =
    omega (arith, ap (λ (v : List ℕ). length v) none)
longest_by forbid w matched next v symbol before now end begun (inr some) =
    let front = some.0 in
    let split = suffix_less front w some.1 symbol (subst (λ v. IsSuffix v (w ++ symbol ∷ [])) some.2 end) in
    let begins = begins_less forbid front (some.1 ∷ []) (subst (λ v. BeginsForbidden forbid v) some.2 begun) in
    let inside = IsSuffix-nested front matched w split.0 before.suffix (before.longest front split.0 begins) in
    let last : IsSuffix (front ++ some.1 ∷ []) (matched ++ symbol ∷ []) =
    subst (λ s. IsSuffix (front ++ s ∷ []) (matched ++ symbol ∷ [])) split.1 (suffix_more front matched symbol inside) in
    now.longest v (subst (λ v. IsSuffix v (matched ++ symbol ∷ [])) (sym some.2) last) begun

-- the longest match of a word with one more symbol is that of the match with the symbol
pub match_more :
    (forbid : List (List ℕ)) (w matched next : List ℕ) (symbol : ℕ) → IsLongestMatch forbid w matched
    → IsLongestMatch forbid (matched ++ symbol ∷ []) next → IsLongestMatch forbid (w ++ symbol ∷ []) next
match_more forbid w matched next symbol before now = record {
  suffix = IsSuffix-trans next (matched ++ symbol ∷ []) (w ++ symbol ∷ []) now.suffix (suffix_more matched w symbol before.suffix);
  begins = now.begins;
  longest = λ v end begun. longest_by forbid w matched next v symbol before now end begun (last_of v);
}

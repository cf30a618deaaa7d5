-- The new numbers of states that pass a test: they ascend, and each has its place.
use Rattle.std.proofs.Common.{◌≡◌, ℕ, zero, suc, ◌+◌, ◌-◌, ◌<◌, ◌≤◌, List, [], ◌∷◌, ◌++◌, length, get_or, map, Bool, true, false, cond, inl, inr, ap, sym, ◌∙◌, subst, arith, length-append, append-nil, add-one}
use Rattle.std.specs.Prelude.{filter}
use Rattle.std.specs.List.{range_with_len}
use Rattle.std.proofs.lemmas.Bool.{cases_lt, cases_Bool}
use Rattle.std.proofs.lemmas.List.{get_or_append_left, get_or_push, map-append, map-id}
use Rattle.std.proofs.lemmas.List.FromFn.{filter_of_map_range_with_len_more}
use Rattle.label_graphs.specs.inside.Numbers.{passing, rank, AreRanks}

passing_next : (test : ℕ → Bool) (n : ℕ) → passing test (n + 1) ≡ passing test n ++ cond (test n) (n ∷ []) []
passing_next test n =
    ap (filter test) (sym (map-id (range_with_len 0 (n + 1)))) ∙ filter_of_map_range_with_len_more test (λ x. x) 0 n n (omega arith)
    ∙ ap (λ xs. filter test xs ++ cond (test n) (n ∷ []) []) (map-id (range_with_len 0 n))

passing_suc : (test : ℕ → Bool) (n : ℕ) → passing test (suc n) ≡ passing test n ++ cond (test n) (n ∷ []) []
passing_suc test n = subst (λ m. passing test m ≡ passing test n ++ cond (test n) (n ∷ []) []) (add-one n) (passing_next test n)

-- one more state that passes is the last
pub passing_more : (test : ℕ → Bool) (n : ℕ) → test n ≡ true → passing test (n + 1) ≡ passing test n ++ n ∷ []
passing_more test n passes = passing_next test n ∙ ap (λ b. passing test n ++ cond b (n ∷ []) []) passes

-- one that fails adds none
pub passing_same : (test : ℕ → Bool) (n : ℕ) → test n ≡ false → passing test (n + 1) ≡ passing test n
passing_same test n fails =
    passing_next test n ∙ ap (λ b. passing test n ++ cond b (n ∷ []) []) fails ∙ append-nil (passing test n)

-- one more state that passes is named
pub named_more : {N : Type 0} (number : N → ℕ) (test : ℕ → Bool) (n : ℕ) (names more : List N) (name : N) → map number names ≡ passing test n
    → number name ≡ n → test n ≡ true → more ≡ names ++ name ∷ [] → map number more ≡ passing test (n + 1)
named_more number test n names more name known is passes joined =
    ap (map number) joined ∙ map-append number names (name ∷ []) ∙ ap (λ (k : ℕ). map number names ++ k ∷ []) is
    ∙ ap (λ (xs : List ℕ). xs ++ n ∷ []) known ∙ sym (passing_more test n passes)

-- and one that fails is not
pub named_same : {N : Type 0} (number : N → ℕ) (test : ℕ → Bool) (n : ℕ) (names more : List N) → map number names ≡ passing test n → test n ≡ false
    → more ≡ names → map number more ≡ passing test (n + 1)
named_same number test n names more known fails same = ap (map number) same ∙ known ∙ sym (passing_same test n fails)

pub rank_more : (test : ℕ → Bool) (n : ℕ) → test n ≡ true → rank test (n + 1) ≡ rank test n + 1
rank_more test n passes = ap (λ (xs : List ℕ). length xs) (passing_more test n passes) ∙ length-append (passing test n) (n ∷ [])

pub rank_same : (test : ℕ → Bool) (n : ℕ) → test n ≡ false → rank test (n + 1) ≡ rank test n
rank_same test n fails = ap (λ (xs : List ℕ). length xs) (passing_same test n fails)

rank_step : (test : ℕ → Bool) (n : ℕ) → (rank test n ≤ rank test (suc n)) × (rank test (suc n) ≤ rank test n + 1)
rank_step test n =
    subst (λ m. (rank test n ≤ rank test m) × (rank test m ≤ rank test n + 1)) (add-one n)
    (elim (cases_Bool (test n)) [
      | inl passes ↦ (let more = rank_more test n passes in (omega (arith, more), omega (arith, more)))
      | inr fails ↦ (let same = rank_same test n fails in (omega (arith, same), omega (arith, same)))
    ])

-- no more states pass than there are
pub rank_most : (test : ℕ → Bool) (n : ℕ) → rank test n ≤ n
rank_most test zero = omega arith
rank_most test (suc n) = let low = rank_most test n in let step = rank_step test n in omega (arith, low, step.1)

rank_up : (test : ℕ → Bool) (n k m : ℕ) → m ≡ k + n → rank test n ≤ rank test m
rank_up test n zero m same = (let here : n ≡ m = omega (arith, same) in subst (λ x. rank test n ≤ rank test x) here (omega arith))
rank_up test n (suc k) zero same = absurd (omega (arith, same))
rank_up test n (suc k) (suc m) same =
    let low = rank_up test n k m (omega (arith, same)) in
    let step = rank_step test m in
    omega (arith, low, step.0)

-- a state that passes has a lower number than each above it
pub rank_below : (test : ℕ → Bool) (n m : ℕ) → n < m → test n ≡ true → rank test n < rank test m
rank_below test n m less passes =
    let up = rank_up test (n + 1) (m - (n + 1)) m (omega (arith, less)) in
    let more = rank_more test n passes in
    omega (arith, up, more)

-- it stands at its number
pub state_at : (test : ℕ → Bool) (m n : ℕ) → n < m → test n ≡ true → get_or (passing test m) (rank test n) 0 ≡ n
state_at test zero n inside passes = absurd (omega (arith, inside))
state_at test (suc m) n inside passes = elim (cases_lt n m) [
  | inl low ↦
      ap (λ (xs : List ℕ). get_or xs (rank test n) 0) (passing_suc test m)
      ∙ get_or_append_left (passing test m) (cond (test m) (m ∷ []) []) 0 (rank test n) (rank_below test n m low passes)
      ∙ state_at test m n low passes
  | inr high ↦ (
      let same : n ≡ m = omega (arith, inside, high) in
      ap (λ (xs : List ℕ). get_or xs (rank test n) 0)
      (passing_suc test m ∙ ap (λ b. passing test m ++ cond b (m ∷ []) []) (subst (λ x. test x ≡ true) same passes))
      ∙ get_or_push (passing test m) m 0 (rank test n) (ap (rank test) (sym same)) ∙ sym same)
]

-- what stands at a number is a state that passes, with that number
pub record StandsAt (test : ℕ → Bool) (n i : ℕ) : Type 0 where
  pub state : ℕ
  pub is : get_or (passing test n) i 0 ≡ state
  pub below : state < n
  pub passes : test state ≡ true
  pub number : rank test state ≡ i

pub stands : (test : ℕ → Bool) (n i : ℕ) → i < rank test n → StandsAt test n i
stands test zero i inside = absurd (omega (arith, inside))
stands test (suc n) i inside = elim (cases_lt i (rank test n)) [
  | inl low ↦ (
      let old = stands test n i low in
      record {
        state = old.state;
        is = ap (λ (xs : List ℕ). get_or xs i 0) (passing_suc test n)
            ∙ get_or_append_left (passing test n) (cond (test n) (n ∷ []) []) 0 i low ∙ old.is;
        below = (let below = old.below in omega (arith, below));
        passes = old.passes;
        number = old.number;
      })
  | inr high ↦ elim (cases_Bool (test n)) [
    | inl passes ↦ (
        let step = rank_step test n in
        let same : rank test n ≡ i = omega (arith, step.1, inside, high) in
        record {
          state = n;
          is = ap (λ (xs : List ℕ). get_or xs i 0) (passing_suc test n ∙ ap (λ b. passing test n ++ cond b (n ∷ []) []) passes)
              ∙ get_or_push (passing test n) n 0 i same;
          below = omega arith;
          passes = passes;
          number = same;
        })
    | inr fails ↦ absurd (
        let same : rank test (suc n) ≡ rank test n = subst (λ m. rank test m ≡ rank test n) (add-one n) (rank_same test n fails) in
        omega (arith, same, inside, high))
  ]
]

-- the new number of one more state
pub ranks_more : (test : ℕ → Bool) (n : ℕ) (numbers more : List ℕ) (next : ℕ) → AreRanks test n numbers → next ≡ rank test n → more ≡ numbers ++ next ∷ []
    → AreRanks test (n + 1) more
ranks_more test n numbers more next known is joined = record {
  size = ap (λ (xs : List ℕ). length xs) joined ∙ length-append numbers (next ∷ []) ∙ ap (λ k. k + 1) known.size;
  each = λ state inside. ap (λ (xs : List ℕ). get_or xs state 0) joined ∙ elim (cases_lt state n) [
    | inl low ↦ get_or_append_left numbers (next ∷ []) 0 state (let size = known.size in omega (arith, size, low)) ∙ known.each state low
    | inr high ↦ (
        let last : n ≡ state = omega (arith, high, inside) in
        get_or_push numbers next 0 state (known.size ∙ last) ∙ is ∙ ap (rank test) last)
  ];
}

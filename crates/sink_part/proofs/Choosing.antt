-- The lightest of the end states so far, and one more state.
use Rattle.std.proofs.Common.{◌≡◌, ℕ, ◌+◌, ◌<◌, ◌≤◌, List, Bool, inl, inr, ap, subst, arith}
use Rattle.std.proofs.lemmas.Bool.{cases_lt}
use Rattle.sink_part.specs.inside.Leads.{IsEnd, IsLightest, total_from}

abbrev pub NoEnds : List ℕ → List (List Bool) → ℕ → Type 0
NoEnds weights table bound = (state : ℕ) → state < bound → IsEnd weights table state → ⊥

-- the next one is no end state
pub none_next : (weights : List ℕ) (table : List (List Bool)) (n : ℕ) → NoEnds weights table n → (IsEnd weights table n → ⊥) → NoEnds weights table (n + 1)
none_next weights table n none other state inside end = elim (cases_lt state n) [
  | inl low ↦ none state low end
  | inr high ↦ (let last : state ≡ n = omega (arith, high, inside) in other (subst (IsEnd weights table) last end))
]

pub best_stays : (weights : List ℕ) (table : List (List Bool)) (n best : ℕ) → IsLightest weights table n best → (IsEnd weights table n → ⊥)
    → IsLightest weights table (n + 1) best
best_stays weights table n best known other = record {
  inside = (let inside = known.inside in omega (arith, inside));
  end = known.end;
  least = λ state inside end. elim (cases_lt state n) [
    | inl low ↦ known.least state low end
    | inr high ↦ absurd (let last : state ≡ n = omega (arith, high, inside) in other (subst (IsEnd weights table) last end))
  ];
}

-- it is one, and the first
pub first_end : (weights : List ℕ) (table : List (List Bool)) (n : ℕ) → NoEnds weights table n → IsEnd weights table n → IsLightest weights table (n + 1) n
first_end weights table n none here = record {
  inside = omega arith;
  end = here;
  least = λ state inside end. elim (cases_lt state n) [
    | inl low ↦ absurd (none state low end)
    | inr high ↦ (let last : n ≡ state = omega (arith, high, inside) in inr (ap (total_from weights table) last, omega (arith, last)))
  ];
}

-- it is no lighter than the best
pub no_lighter : (weights : List ℕ) (table : List (List Bool)) (n best : ℕ) → IsLightest weights table n best
    → total_from weights table best ≤ total_from weights table n → IsLightest weights table (n + 1) best
no_lighter weights table n best known low = record {
  inside = (let inside = known.inside in omega (arith, inside));
  end = known.end;
  least = λ state inside end. elim (cases_lt state n) [
    | inl before ↦ known.least state before end
    | inr high ↦ (
        let last : state ≡ n = omega (arith, high, inside) in
        let total = ap (total_from weights table) last in
        let below = known.inside in
        elim (cases_lt (total_from weights table best) (total_from weights table state)) [
          | inl less ↦ inl less
          | inr most ↦ inr (omega (arith, low, most, total), omega (arith, below, last))
        ])
  ];
}

-- it is lighter
pub next_lighter : (weights : List ℕ) (table : List (List Bool)) (n best : ℕ) → IsLightest weights table n best → IsEnd weights table n
    → total_from weights table n < total_from weights table best → IsLightest weights table (n + 1) n
next_lighter weights table n best known here less = record {
  inside = omega arith;
  end = here;
  least = λ state inside end. elim (cases_lt state n) [
    | inl before ↦ elim (known.least state before end) [
      | inl more ↦ inl (omega (arith, less, more))
      | inr same ↦ inl (omega (arith, less, same.0))
    ]
    | inr high ↦ (let last : n ≡ state = omega (arith, high, inside) in inr (ap (total_from weights table) last, omega (arith, last)))
  ];
}

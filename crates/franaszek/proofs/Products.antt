-- Sums of products: what they are where all numbers are one, and how they fall with the numbers.
use Rattle.std.proofs.Common.{◌≡◌, ℕ, zero, suc, ◌+◌, ◌*◌, ◌-◌, ◌<◌, ◌≤◌, List, [], ◌∷◌, length, get_or, set, replicate, inl, inr, ap, arith}
use Rattle.std.specs.List.{sum}
use Rattle.std.proofs.Math.Nat.{mul-le-mul_left}
use Rattle.std.proofs.lemmas.Bool.{cases_lt}
use Rattle.std.proofs.lemmas.List.{get_or_past}
use Rattle.std.proofs.lemmas.List.Sums.{sum_by-set, get_or-le-sum_by}
use Rattle.label_graphs.proofs.Sums.{sum-cons}
use Rattle.label_graphs.specs.Vector.{product_sum, IsGreatest, IsVector, IsNonzero, IsLeastBound}

-- where each number is the same
pub product_of_one : (row : List ℕ) (w : ℕ) → product_sum row (replicate (length row) w) ≡ sum row * w
product_of_one [] w = omega arith
product_of_one (entry ∷ row) w =
    let rest = product_of_one row w in
    let more = sum-cons entry row in
    rw more (omega (arith, rest))

-- how the sum falls where one number does
pub product_of_fall : (row x : List ℕ) (i w : ℕ) → i < length x → w ≤ get_or x i 0
    → product_sum row (set x i w) + get_or row i 0 * (get_or x i 0 - w) ≡ product_sum row x
product_of_fall row [] i w inside low = absurd (omega (arith, inside))
product_of_fall [] (v ∷ x) zero w inside low = omega arith
product_of_fall [] (v ∷ x) (suc i) w inside low = omega arith
product_of_fall (entry ∷ row) (v ∷ x) zero w inside low =
    let back : w + (v - w) ≡ v = omega (arith, low) in
    let same : entry * w + entry * (v - w) ≡ entry * v = grind (arith, ap (λ n. entry * n) back) in
    omega (arith, same)
product_of_fall (entry ∷ row) (v ∷ x) (suc i) w inside low =
    let rest = product_of_fall row x i w (omega (arith, inside)) low in
    omega (arith, rest)

-- smaller numbers give no greater sum
pub product_le : (row y x : List ℕ) → length y ≡ length x → ((k : ℕ) → get_or y k 0 ≤ get_or x k 0) → product_sum row y ≤ product_sum row x
product_le [] y x size below = omega arith
product_le (entry ∷ row) [] [] size below = omega arith
product_le (entry ∷ row) [] (v ∷ x) size below = omega arith
product_le (entry ∷ row) (w ∷ y) [] size below = absurd (omega (arith, size))
product_le (entry ∷ row) (w ∷ y) (v ∷ x) size below =
    let here : w ≤ v = below 0 in
    let first : entry * w ≤ entry * v = mul-le-mul_left entry here in
    let rest = product_le row y x (omega (arith, size)) (λ k. below (suc k)) in
    omega (arith, first, rest)

-- a number of the row times one of the list is part of the sum
pub sum_of_fall : (x : List ℕ) (i w : ℕ) → i < length x → w < get_or x i 0 → sum (set x i w) < sum x
sum_of_fall x i w inside low = let total = sum_by-set (λ (n : ℕ). n) x i w 0 inside in omega (arith, total, low)

pub none_above : (x : List ℕ) → sum x ≡ 0 → (state : ℕ) → get_or x state 0 ≡ 0
none_above x none state = elim (cases_lt state (length x)) [
  | inl inside ↦ (let low = get_or-le-sum_by (λ (n : ℕ). n) x state 0 inside in omega (arith, low, none))
  | inr outside ↦ get_or_past x state 0 outside
]

pub some_above : (x : List ℕ) → 0 < sum x → IsNonzero x
some_above [] some = absurd (omega (arith, some))
some_above (zero ∷ x) some =
    let more = sum-cons 0 x in
    let rest = some_above x (omega (arith, some, more)) in
    (suc rest.0, rest.1)
some_above (suc w ∷ x) some = (0, omega arith)

-- a vector within a bound is one within a greater one
pub vector_within : (sum_of : List ℕ → ℕ → ℕ) (count n lower bound : ℕ) (x : List ℕ) → lower ≤ bound → IsVector sum_of count n lower x → IsVector sum_of count n bound x
vector_within sum_of count n lower bound x less known = record {
  solution = record {
    size = known.solution.size;
    within = λ k d inside. (let low = known.solution.within k d inside in omega (arith, low, less));
    inequality = known.solution.inequality;
  };
  nonzero = known.nonzero;
}

-- there is none where the greatest solution is all 0
pub no_vector : (sum_of : List ℕ → ℕ → ℕ) (count n bound : ℕ) (x other : List ℕ) → IsGreatest sum_of count n bound x → sum x ≡ 0 → IsVector sum_of count n bound other → ⊥
no_vector sum_of count n bound x other known none some =
    let low = known.greatest other some.solution some.nonzero.0 in
    let zero_here = none_above x none some.nonzero.0 in
    let up = some.nonzero.1 in
    absurd (omega (arith, low, zero_here, up))

-- no vector is within the bound 0
pub none_within_zero : (sum_of : List ℕ → ℕ → ℕ) (count n : ℕ) (x : List ℕ) → IsVector sum_of count n 0 x → ⊥
none_within_zero sum_of count n x known =
    let state = known.nonzero.0 in
    let up = known.nonzero.1 in
    elim (cases_lt state (length x)) [
      | inl inside ↦ absurd (let low = known.solution.within state 0 inside in omega (arith, low, up))
      | inr outside ↦ absurd (let past = get_or_past x state 0 outside in omega (arith, past, up))
    ]

-- the greatest solution is a vector where it is not all 0
pub vector_by : (sum_of : List ℕ → ℕ → ℕ) (count n bound : ℕ) (x : List ℕ) → IsGreatest sum_of count n bound x → 0 < sum x → IsVector sum_of count n bound x
vector_by sum_of count n bound x known some = record { solution = known.solution; nonzero = some_above x some }

pub least_by : (sum_of : List ℕ → ℕ → ℕ) (count n low high : ℕ) (x : List ℕ) → high ≡ low + 1 → IsGreatest sum_of count n high x → 0 < sum x
    → ((other : List ℕ) → IsVector sum_of count n low other → ⊥) → IsLeastBound sum_of count n high
least_by sum_of count n low high x next known some none = record {
  one = omega (arith, next);
  some = (x, vector_by sum_of count n high x known some);
  least = λ lower below other vector. none other (vector_within sum_of count n lower low other (omega (arith, below, next)) vector);
}

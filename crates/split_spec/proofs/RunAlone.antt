-- A row has no more than one run.
use Rattle.std.proofs.Common.{◌≡◌, ℕ, ◌+◌, ◌*◌, ◌%◌, ◌<◌, ◌≤◌, List, ◌++◌, length, take, drop, inl, inr, refl, ap, sym, ◌∙◌, subst, arith}
use Rattle.std.proofs.Math.Nat.{eq_of_mul-eq-mul_left}
use Rattle.std.proofs.lemmas.Bool.{cases_order}
use Rattle.std.proofs.lemmas.List.{take_at, drop_at}
use Rattle.label_graphs.specs.Graph.{EdgeData}
use Rattle.split_spec.specs.Run.{IsLighter, IsLightestFirst, weight_of, AgreeAt, IsRun}
use Rattle.split_spec.proofs.OrderTold.{ascending_same}
use Rattle.split_spec.proofs.OrderedRows.{lighter_strict}
use Rattle.split_spec.proofs.ResidueLaws.{agree_by, agreed}
use Rattle.split_spec.proofs.RunPlaces.{take_part}
use Rattle.split_spec.proofs.SumsBounded.{weight-append}

-- the places of a run in the ordered edges: behind the first i of them stand its m
record RunAt (n : ℕ) (x : List ℕ) (all : List EdgeData) (i m y : ℕ) : Type 0 where
  some : 0 < m
  sums : weight_of x (take (i + m) all) ≡ weight_of x (take i all) + n * y
  first : (a b : ℕ) → a < b → b < i + m → AgreeAt n x all a b → ⊥

-- the ordered edges that a run is one of
abbrev list_of : (n : ℕ) (x : List ℕ) (row run : List EdgeData) (y : ℕ) → IsRun n x row run y → List EdgeData
list_of n x row run y is = is.before ++ (run ++ is.behind)

-- a run stands at its places
run_stands : (n : ℕ) (x : List ℕ) (row run : List EdgeData) (y : ℕ) (is : IsRun n x row run y)
    → run ≡ take (length run) (drop (length is.before) (list_of n x row run y is))
run_stands n x row run y is =
    let rest = drop_at is.before (run ++ is.behind) (length is.before) refl in
    sym (ap (λ (es : List EdgeData). take (length run) es) rest ∙ take_at run is.behind (length run) refl)

-- and has what is said of them
run_places : (n : ℕ) (x : List ℕ) (row run : List EdgeData) (y : ℕ) (is : IsRun n x row run y)
    → RunAt n x (list_of n x row run y is) (length is.before) (length run) y
run_places n x row run y is =
    let all = list_of n x row run y is in
    let i = length is.before in
    let front : take (i + length run) all ≡ take i all ++ run =
    sym (take_part all i (length run) (i + length run) refl) ∙ ap (λ (es : List EdgeData). take i all ++ es) (sym (run_stands n x row run y is)) in
    let sum : weight_of x (take (i + length run) all) ≡ weight_of x (take i all) + weight_of x run =
    ap (weight_of x) front ∙ weight-append x (take i all) run in
    record { some = is.some; sums = sum ∙ ap (λ k. weight_of x (take i all) + k) is.weight; first = is.first }

-- the edges of a row have one order
pub a_row_has_one_order : (x : List ℕ) (row es fs : List EdgeData) → IsLightestFirst x row es → IsLightestFirst x row fs → es ≡ fs
a_row_has_one_order x row es fs one other =
    ascending_same (IsLighter x) es fs (lighter_strict x) one.order other.order
    (λ e found. (other.same e).1 ((one.same e).0 found)) (λ e found. (one.same e).1 ((other.same e).0 found))

-- a run ends where another one does
same_end : (n : ℕ) (x : List ℕ) (all : List EdgeData) (i m y k l z : ℕ) → RunAt n x all i m y → RunAt n x all k l z → i + m ≡ k + l
same_end n x all i m y k l z one other = elim (cases_order (i + m) (k + l)) [
  | inl same ↦ same
  | inr differ ↦ elim differ [
    | inl less ↦ absurd (other.first i (i + m) (let some = one.some in omega (arith, some)) less (y, one.sums))
    | inr more ↦ absurd (one.first k (k + l) (let some = other.some in omega (arith, some)) more (z, other.sums))
  ]
]

-- it doesn't begin before another one
no_sooner : (n : ℕ) (x : List ℕ) (all : List EdgeData) (i m y k l z : ℕ) → RunAt n x all i m y → RunAt n x all k l z → i < k → ⊥
no_sooner n x all i m y k l z one other less =
    let end = same_end n x all i m y k l z one other in
    let here = agreed n x all i (i + m) (y, one.sums) in
    let there = agreed n x all k (k + l) (z, other.sums) in
    let joined = here ∙ ap (λ j. weight_of x (take j all) % n) end ∙ sym there in
    one.first i k less (let some = other.some in omega (arith, end, some)) (agree_by n x all i k less joined)

-- so it begins where another one does
same_begin : (n : ℕ) (x : List ℕ) (all : List EdgeData) (i m y k l z : ℕ) → RunAt n x all i m y → RunAt n x all k l z → i ≡ k
same_begin n x all i m y k l z one other = elim (cases_order i k) [
  | inl same ↦ same
  | inr differ ↦ elim differ [
    | inl less ↦ absurd (no_sooner n x all i m y k l z one other less)
    | inr more ↦ absurd (no_sooner n x all k l z i m y other one more)
  ]
]

-- and weighs as much
same_weight : (n : ℕ) (x : List ℕ) (all : List EdgeData) (i m y k l z : ℕ) → 1 ≤ n → RunAt n x all i m y → RunAt n x all k l z → y ≡ z
same_weight n x all i m y k l z some one other =
    let end = ap (λ j. weight_of x (take j all)) (same_end n x all i m y k l z one other) in
    let begin = ap (λ j. weight_of x (take j all)) (same_begin n x all i m y k l z one other) in
    let here = one.sums in
    let there = other.sums in
    eq_of_mul-eq-mul_left n (omega (arith, some)) y z (omega (arith, end, begin, here, there))

-- a row has at most one run, which has one weight
pub a_row_has_one_run : (n : ℕ) (x : List ℕ) (row run other : List EdgeData) (y z : ℕ) → IsRun n x row run y
    → IsRun n x row other z → (run ≡ other) × (y ≡ z)
a_row_has_one_run n x row run other y z is also =
    let some : 1 ≤ n = (let edge = is.some in let early = is.early in omega (arith, edge, early)) in
    let all = list_of n x row run y is in
    let list : list_of n x row other z also ≡ all = a_row_has_one_order x row (list_of n x row other z also) all also.order is.order in
    let i = length is.before in
    let k = length also.before in
    let here = run_places n x row run y is in
    let there = subst (λ (es : List EdgeData). RunAt n x es k (length other) z) list (run_places n x row other z also) in
    let begin = same_begin n x all i (length run) y k (length other) z here there in
    let end = same_end n x all i (length run) y k (length other) z here there in
    let size : length run ≡ length other = omega (arith, begin, end) in
    let same : run ≡ other =
    run_stands n x row run y is
    ∙ ap (λ j. take (length run) (drop j all)) begin ∙ ap (λ j. take j (drop k all)) size
    ∙ ap (λ (es : List EdgeData). take (length other) (drop k es)) (sym list) ∙ sym (run_stands n x row other z also) in
    (same, same_weight n x all i (length run) y k (length other) z some here there)

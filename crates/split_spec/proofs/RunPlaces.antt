-- The run of a row: where it stands in the row's edges, that there is one, and that it is light.
use Rattle.std.proofs.Common.{◌≡◌, ℕ, ◌+◌, ◌-◌, ◌*◌, ◌<◌, ◌≤◌, List, [], ◌∷◌, ◌++◌, length, take, drop, inl, inr, ap, sym, ◌∙◌, subst, arith}
use Rattle.std.specs.Prelude.{Contains, slice_index}
use Rattle.std.proofs.Math.Nat.{mul-lt-mul_of_pos_right, lt_of_mul-lt-mul_left}
use Rattle.std.proofs.lemmas.Bool.{cases_lt}
use Rattle.std.proofs.lemmas.List.{take-append-drop, take-take, drop-take, drop-drop, length-take-le, length-drop, nil_from_length}
use Rattle.std.proofs.lemmas.List.Elements.{Contains-append_left, Contains-append_right}
use Rattle.symbol_base.proofs.AscendingNumbers.{first_or_rest}
use Rattle.label_graphs.specs.Graph.{EdgeData}
use Rattle.split_spec.specs.Run.{IsLighter, IsLightestFirst, weight_of, AgreeAt, IsRun}
use Rattle.split_spec.proofs.Listed.{listed_first}
use Rattle.split_spec.proofs.OrderTold.{first_before}
use Rattle.split_spec.proofs.OrderedRows.{lighter_strict, OrderedRow}
use Rattle.split_spec.proofs.ResidueLaws.{FirstRepeat, residue_at, agree_by, agreed, first_agreement}
use Rattle.split_spec.proofs.SumsBounded.{weight-append, AreAtMost, weights_most, weights_below}

-- the first j items are the first i and the m behind them
pub take_part : {X : Type 0} (xs : List X) (i m j : ℕ) → i + m ≡ j → take i xs ++ take m (drop i xs) ≡ take j xs
take_part {X = X} xs i m j is =
    let front : take i (take j xs) ≡ take i xs = take-take i j xs (omega (arith, is)) in
    let back : drop i (take j xs) ≡ take m (drop i xs) = ap (λ k. drop i (take k xs)) (sym is) ∙ drop-take i m xs in
    let whole = take-append-drop i (take j xs) in
    ap (λ (ys : List X). ys ++ take m (drop i xs)) (sym front) ∙ ap (λ (ys : List X). take i (take j xs) ++ ys) (sym back) ∙ whole

-- a list is its first i items, the m behind them, and the rest
pub three_parts : {X : Type 0} (xs : List X) (i m j : ℕ) → i + m ≡ j → take i xs ++ (take m (drop i xs) ++ drop j xs) ≡ xs
three_parts {X = X} xs i m j is =
    let back : drop j xs ≡ drop m (drop i xs) = ap (λ k. drop k xs) (sym is) ∙ sym (drop-drop m i xs) in
    ap (λ (ys : List X). take i xs ++ (take m (drop i xs) ++ ys)) back
    ∙ ap (λ (ys : List X). take i xs ++ ys) (take-append-drop m (drop i xs)) ∙ take-append-drop i xs

-- a row has a run
pub record HasRun (n : ℕ) (x : List ℕ) (row : List EdgeData) : Type 0 where
  pub run : List EdgeData
  pub y : ℕ
  pub is : IsRun n x row run y

-- the run from the place that the first agreement is with to the one where it is
run_at : (n : ℕ) (x : List ℕ) (row : List EdgeData) (all : OrderedRow x row) → n ≤ length row → FirstRepeat (residue_at n x all.list) (n + 1)
    → HasRun n x row
run_at n x row all long found =
    let i = found.i in
    let j = found.j in
    let m = j - i in
    let up = found.order in
    let low = found.inside in
    let size = all.size in
    let joined : i + m ≡ j = omega (arith, up) in
    let parts = three_parts all.list i m j joined in
    let agree = agree_by n x all.list i j up found.same in
    let front : length (take i all.list) ≡ i = length-take-le i all.list (omega (arith, up, low, size, long)) in
    let rest = length-drop i all.list in
    let wide : length (take m (drop i all.list)) ≡ m = length-take-le m (drop i all.list) (omega (arith, up, low, size, long, rest)) in
    let sum : weight_of x (take j all.list) ≡ weight_of x (take i all.list) + weight_of x (take m (drop i all.list)) =
    ap (weight_of x) (sym (take_part all.list i m j joined)) ∙ weight-append x (take i all.list) (take m (drop i all.list)) in
    record {
      run = take m (drop i all.list);
      y = agree.0;
      is = record {
        before = take i all.list;
        behind = drop j all.list;
        order = subst (IsLightestFirst x row) (sym parts) all.first;
        some = omega (arith, wide, up);
        early = omega (arith, front, wide, joined, low);
        weight = (let apart = agree.1 in omega (arith, sum, apart));
        first = λ a b order inside same.
            found.first a b order (omega (arith, inside, front, wide, joined))
            (agreed n x all.list a b (subst (λ (es : List EdgeData). AgreeAt n x es a b) parts same));
      };
    }

-- n edges or more have a run
pub a_long_row_has_a_run : (n : ℕ) (x : List ℕ) (row : List EdgeData) → OrderedRow x row → 1 ≤ n → n ≤ length row → HasRun n x row
a_long_row_has_a_run n x row all some long = run_at n x row all long (first_agreement n x all.list some)

-- the edges of a run are some of the row
pub run_in_row : (n : ℕ) (x : List ℕ) (row run : List EdgeData) (y : ℕ) → IsRun n x row run y → (e : EdgeData) → Contains run e → Contains row e
run_in_row n x row run y is e found =
    (is.order.same e).0 (Contains-append_right is.before (run ++ is.behind) e (Contains-append_left run is.behind e found))

-- the first edge is a lightest one
first_lightest : (x : List ℕ) (row : List EdgeData) (e : EdgeData) (rest : List EdgeData) → IsLightestFirst x row (e ∷ rest)
    → (light : EdgeData) → Contains row light → slice_index x e.to ≤ slice_index x light.to
first_lightest x row e rest first light found = elim (first_or_rest e light rest ((first.same light).1 found)) [
  | inl same ↦ (let equal = ap (λ (f : EdgeData). slice_index x f.to) same in omega (arith, equal))
  | inr behind ↦ elim (first_before (IsLighter x) e rest (lighter_strict x) first.order light behind) [
    | inl less ↦ omega (arith, less)
    | inr both ↦ (let equal = both.0 in omega (arith, equal))
  ]
]

-- a run at the very beginning holds a lightest edge
run_with_first : (x : List ℕ) (m : ℕ) (row before run behind : List EdgeData) (light : EdgeData) → before ≡ []
    → IsLightestFirst x row (before ++ (run ++ behind)) → 0 < length run → AreAtMost x m run → Contains row light → slice_index x light.to < m
    → weight_of x run < length run * m
run_with_first x m row before [] behind light none first some most found less = absurd (omega (arith, some))
run_with_first x m row before (e ∷ run) behind light none first some most found less =
    let low = first_lightest x row e (run ++ behind)
    (subst (λ (es : List EdgeData). IsLightestFirst x row (es ++ ((e ∷ run) ++ behind))) none first) light found in
    weights_below x m (e ∷ run) e most (listed_first e run) (omega (arith, low, less))

-- where no target of a row weighs more than m, and one weighs less, the run weighs less than n times m
pub run_is_light : (n : ℕ) (x : List ℕ) (m : ℕ) (row run : List EdgeData) (y : ℕ) (light : EdgeData) → IsRun n x row run y → AreAtMost x m row
    → Contains row light → slice_index x light.to < m → y < m
run_is_light n x m row run y light is most found less =
    let in_run : AreAtMost x m run = λ e there. most e (run_in_row n x row run y is e there) in
    let weight = is.weight in
    let early = is.early in
    let total : weight_of x run < n * m = elim (cases_lt (length run) n) [
      | inl short ↦ (
          let low = weights_most x m run in_run in
          let few : length run * m < n * m = mul-lt-mul_of_pos_right short (omega (arith, less)) in
          omega (arith, low, few))
      | inr long ↦ (
          let wide : length run ≡ n = omega (arith, early, long) in
          subst (λ k. weight_of x run < k * m) wide
          (run_with_first x m row is.before run is.behind light (nil_from_length is.before (omega (arith, early, long))) is.order is.some in_run found less))
    ] in
    lt_of_mul-lt-mul_left n (omega (arith, total, weight))

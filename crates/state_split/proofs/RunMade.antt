-- The run between the first two sums that agree, and that there is none where no sums do.
use Rattle.std.proofs.Common.{◌≡◌, ℕ, ◌+◌, ◌-◌, ◌*◌, ◌/◌, ◌<◌, List, ◌++◌, length, length-append, get_or, take, drop, refl, ap, sym, ◌∙◌, subst, arith}
use Rattle.std.specs.Prelude.{All, Contains}
use Rattle.std.proofs.Math.Nat.{mul-div_cancel_left}
use Rattle.std.proofs.lemmas.List.{append_assoc, take_at, length-take-le, length-drop, length-map, get_or-map}
use Rattle.label_graphs.specs.declared.graph.Edge.{Edge}
use Rattle.label_graphs.specs.Graph.{EdgeData}
use Rattle.label_graphs.specs.Views.{edge_data}
use Rattle.split_spec.specs.Run.{IsLightestFirst, weight_of, AgreeAt, IsRun}
use Rattle.split_spec.proofs.RunAlone.{a_row_has_one_order}
use Rattle.split_spec.proofs.RunPlaces.{take_part, three_parts}
use Rattle.split_spec.proofs.SumsBounded.{weight-append}
use Rattle.state_split.specs.Views.{edges_data}
use Rattle.state_split.specs.inside.Agreeing.{IsFirstAgreeing, NoneAgree}

-- the edges between the two places are the run
pub run_made : (n : ℕ) (x : List ℕ) (row all run : List EdgeData) (from to w : ℕ) → 0 < n → IsFirstAgreeing n x all from to → IsLightestFirst x row all
    → run ≡ take (to - from) (drop from all) → w ≡ weight_of x run → IsRun n x row run (w / n)
run_made n x row all run from to w some found first is weight =
    let m = to - from in
    let up = found.order in
    let low = found.inside in
    let joined : from + m ≡ to = omega (arith, up) in
    let parts : take from all ++ (run ++ drop to all) ≡ all = ap (λ (es : List EdgeData). take from all ++ (es ++ drop to all)) is ∙ three_parts all from m to joined in
    let front : length (take from all) ≡ from = length-take-le from all (omega (arith, up, low)) in
    let rest = length-drop from all in
    let wide : length run ≡ m = ap (λ (es : List EdgeData). length es) is ∙ length-take-le m (drop from all) (omega (arith, up, low, rest)) in
    let apart = found.agree in
    let sum : weight_of x (take to all) ≡ weight_of x (take from all) + weight_of x run =
    ap (weight_of x) (sym (take_part all from m to joined)) ∙ weight-append x (take from all) (take m (drop from all))
    ∙ ap (λ (es : List EdgeData). weight_of x (take from all) + weight_of x es) (sym is) in
    let multiple : weight_of x run ≡ n * apart.0 = (let far = apart.1 in omega (arith, sum, far)) in
    let divided : w / n ≡ apart.0 = ap (λ v. v / n) (weight ∙ multiple) ∙ mul-div_cancel_left apart.0 some in
    record {
      before = take from all;
      behind = drop to all;
      order = subst (IsLightestFirst x row) (sym parts) first;
      some = omega (arith, wide, up);
      early = (let early = found.early in omega (arith, front, wide, joined, early));
      weight = multiple ∙ ap (λ v. n * v) (sym divided);
      first = λ a b order inside same.
          found.first a b order (omega (arith, inside, front, wide, joined)) (subst (λ (es : List EdgeData). AgreeAt n x es a b) parts same);
    }

-- where no sums agree there is no run
pub no_run : (n : ℕ) (x : List ℕ) (row all run : List EdgeData) (y : ℕ) → IsLightestFirst x row all → NoneAgree n x all → IsRun n x row run y → ⊥
no_run n x row all run y first none is =
    let i = length is.before in
    let j = i + length run in
    let list = is.before ++ (run ++ is.behind) in
    let same : list ≡ all = a_row_has_one_order x row list all is.order first in
    let one : take i list ≡ is.before = take_at is.before (run ++ is.behind) i refl in
    let two : take j list ≡ is.before ++ run =
    ap (λ (es : List EdgeData). take j es) (sym (append_assoc is.before run is.behind)) ∙ take_at (is.before ++ run) is.behind j (length-append is.before run) in
    let sum : weight_of x (take j list) ≡ weight_of x (take i list) + n * y =
    ap (weight_of x) two ∙ weight-append x is.before run ∙ ap (λ (es : List EdgeData). weight_of x es + weight_of x run) (sym one)
    ∙ ap (λ v. weight_of x (take i list) + v) is.weight in
    let size : length all ≡ i + (length run + length is.behind) =
    ap (λ (es : List EdgeData). length es) (sym same) ∙ length-append is.before (run ++ is.behind) ∙ ap (λ v. i + v) (length-append run is.behind) in
    let up = is.some in
    none i j (omega (arith, up)) is.early (omega (arith, size)) (y, ap (λ (es : List EdgeData). weight_of x (take j es)) (sym same) ∙ sum ∙ ap (λ (es : List EdgeData). weight_of x (take i es) + n * y) same)

-- what is told of all edges of a row is true in another order
pub ordered_inside : (x : List ℕ) (row ordered : List (Edge ℕ)) → IsLightestFirst x (edges_data row) (edges_data ordered)
    → All (λ (e : Edge ℕ). e.to < length x) row → All (λ (e : Edge ℕ). e.to < length x) ordered
ordered_inside x row ordered first inside = λ k d low.
    let f = edge_data (λ name. name) (get_or ordered k d) in
    let there : Contains (edges_data ordered) f =
    (k, (let size = length-map ordered (edge_data (λ name. name)) in omega (arith, low, size)), get_or-map (edge_data (λ name. name)) ordered k d f low) in
    let found = (first.same f).0 there in
    let fits = length-map row (edge_data (λ name. name)) in
    let here : found.0 < length row = (let listed = found.1 in omega (arith, listed, fits)) in
    let read : edge_data (λ name. name) (get_or row found.0 d) ≡ f = sym (get_or-map (edge_data (λ name. name)) row found.0 d f here) ∙ found.2 in
    subst (λ (e : EdgeData). e.to < length x) read (inside found.0 d here)

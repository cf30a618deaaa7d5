-- Sums of the weights of edges, and bounds of them by the greatest weight.
use Rattle.std.proofs.Common.{◌≡◌, ℕ, ◌+◌, ◌*◌, ◌<◌, ◌≤◌, List, [], ◌∷◌, ◌++◌, length, map, inl, inr, ap, arith}
use Rattle.std.specs.Prelude.{Contains, slice_index}
use Rattle.std.proofs.Math.Nat.{suc-mul}
use Rattle.std.proofs.lemmas.List.Sums.{sum-map, sum_by-cons, sum_by-append}
use Rattle.symbol_base.proofs.AscendingNumbers.{first_or_rest}
use Rattle.label_graphs.specs.Graph.{EdgeData}
use Rattle.split_spec.specs.Run.{weight_of}
use Rattle.split_spec.proofs.Listed.{listed_first, listed_behind}

-- one more edge adds the weight of its target
pub weight-cons : (x : List ℕ) (e : EdgeData) (edges : List EdgeData) → weight_of x (e ∷ edges) ≡ slice_index x e.to + weight_of x edges
weight-cons x e edges = sum_by-cons (λ (n : ℕ). n) (slice_index x e.to) (map (λ e. slice_index x e.to) edges)

-- the weights of edges that follow others are added
pub weight-append : (x : List ℕ) (es fs : List EdgeData) → weight_of x (es ++ fs) ≡ weight_of x es + weight_of x fs
weight-append x es fs =
    let W : EdgeData → ℕ = λ e. slice_index x e.to in
    let all = sum-map W (es ++ fs) in
    let parts = sum_by-append W es fs in
    let one = sum-map W es in
    let other = sum-map W fs in
    omega (arith, all, parts, one, other)

-- no target weighs more than m
abbrev pub AreAtMost : List ℕ → ℕ → List EdgeData → Type 0
AreAtMost x m edges = (e : EdgeData) → Contains edges e → slice_index x e.to ≤ m

-- so all of them weigh no more than as many times m
pub weights_most : (x : List ℕ) (m : ℕ) (edges : List EdgeData) → AreAtMost x m edges → weight_of x edges ≤ length edges * m
weights_most x m [] most = omega arith
weights_most x m (e ∷ edges) most =
    let here = most e (listed_first e edges) in
    let rest = weights_most x m edges (λ f found. most f (listed_behind e edges f found)) in
    let more = weight-cons x e edges in
    let times = suc-mul (length edges) m in
    omega (arith, here, rest, more, times)

-- and less where one weighs less
pub weights_below : (x : List ℕ) (m : ℕ) (edges : List EdgeData) (light : EdgeData) → AreAtMost x m edges → Contains edges light
    → slice_index x light.to < m → weight_of x edges < length edges * m
weights_below x m [] light most found less = absurd (omega (arith, found.1))
weights_below x m (e ∷ edges) light most found less =
    let here = most e (listed_first e edges) in
    let others : AreAtMost x m edges = λ f found. most f (listed_behind e edges f found) in
    let rest = weights_most x m edges others in
    let more = weight-cons x e edges in
    let times = suc-mul (length edges) m in
    elim (first_or_rest e light edges found) [
      | inl same ↦ (let light = ap (λ (f : EdgeData). slice_index x f.to) same in omega (arith, light, less, rest, more, times))
      | inr behind ↦ (let low = weights_below x m edges light others behind less in omega (arith, here, low, more, times))
    ]

-- The words that words_from lists stand in order.
use Rattle.std.proofs.Common.{◌≡◌, ℕ, zero, suc, ◌+◌, ◌*◌, ◌^◌, ◌<◌, ◌≤◌, List, [], ◌∷◌, ◌++◌, get_or, inl, inr, refl, ap, subst, arith}
use Rattle.std.specs.Prelude.{Contains}
use Rattle.std.specs.List.{flat_map}
use Rattle.std.proofs.Math.Nat.{pow-zero, pow-succ', mul-le-mul_right}
use Rattle.std.proofs.lemmas.List.Elements.{Contains-append_right, Contains-append_cases}
use Rattle.symbol_base.specs.Ascending.{IsAscending}
use Rattle.symbol_base.proofs.AscendingNumbers.{first_or_rest}
use Rattle.label_graphs.specs.Graph.{EdgeData, IsEdgeBefore, IsGraph}
use Rattle.label_graphs.specs.Cover.{CoverData, KeepsSymbols}
use Rattle.label_graphs.proofs.EdgeOrder.{first_before, rest_ascends, ascending_by}
use Rattle.graph_power.specs.inside.Words.{words_from}
use Rattle.graph_power.proofs.Totals.{Rise, rises, symbol_below}
use Rattle.graph_power.proofs.Listed.{from_part}

append_ascends : (es fs : List EdgeData) → IsAscending IsEdgeBefore es → IsAscending IsEdgeBefore fs
    → ((e f : EdgeData) → Contains es e → Contains fs f → IsEdgeBefore e f) → IsAscending IsEdgeBefore (es ++ fs)
append_ascends [] fs left right across = right
append_ascends (e ∷ es) fs left right across =
    ascending_by e (es ++ fs)
    (λ g found. elim (Contains-append_cases es fs g found) [
      | inl here ↦ first_before e es left g here
      | inr there ↦ across e g (0, omega arith, refl) there
    ])
    (append_ascends es fs (rest_ascends e es left) right (λ x y here there. across x y (Contains-append_right (e ∷ []) es x here) there))

pub first_lowest : (e : EdgeData) (row : List EdgeData) → Rise (e ∷ row) → (f : EdgeData) → Contains row f → e.block < f.block
first_lowest e [] order f found = absurd (omega (arith, found.1))
first_lowest e (g ∷ row) order f found = elim (first_or_rest g f row found) [
  | inl same ↦ (let is : g.block ≡ f.block = ap (λ (x : EdgeData). x.block) same in omega (arith, order.0, is))
  | inr rest ↦ (let up = first_lowest g row order.1 f rest in omega (arith, order.0, up))
]

pub rest_rises : (e : EdgeData) (row : List EdgeData) → Rise (e ∷ row) → Rise row
rest_rises e [] order = tt
rest_rises e (f ∷ row) order = order.1

parts_ascend : (F : EdgeData → List EdgeData) (row : List EdgeData) → Rise row
    → ((e : EdgeData) → Contains row e → IsAscending IsEdgeBefore (F e))
    → ((e f x y : EdgeData) → Contains row e → Contains row f → e.block < f.block → Contains (F e) x → Contains (F f) y → IsEdgeBefore x y)
    → IsAscending IsEdgeBefore (flat_map F row)
parts_ascend F [] order each across = tt
parts_ascend F (e ∷ row) order each across =
    append_ascends (F e) (flat_map F row) (each e (0, omega arith, refl))
    (parts_ascend F row (rest_rises e row order) (λ x found. each x (Contains-append_right (e ∷ []) row x found))
    (λ x y v w here there. across x y v w (Contains-append_right (e ∷ []) row x here) (Contains-append_right (e ∷ []) row y there)))
    (λ x y here there.
    let part = from_part F row y there in
    across e part.0 x y (0, omega arith, refl) (Contains-append_right (e ∷ []) row part.0 part.1) (first_lowest e row order part.0 part.1) here part.2)

-- a block that goes on from another lies between it and the next, times the weight
pub record LiesBehind (cover : CoverData) (q block : ℕ) (e : EdgeData) : Type 0 where
  pub low : block * cover.alphabet ^ q ≤ e.block
  pub high : e.block < suc block * cover.alphabet ^ q

step_low : (alphabet block symbol weight whole value : ℕ) → whole ≡ alphabet * weight → (block * alphabet + symbol) * weight ≤ value → block * whole ≤ value
step_low alphabet block symbol weight whole value is low =
    let more : block * alphabet * weight ≤ (block * alphabet + symbol) * weight = mul-le-mul_right weight (omega arith) in
    let same : block * whole ≡ block * alphabet * weight = rw is (grind arith) in
    omega (arith, low, more, same)

step_high : (alphabet block symbol weight whole value : ℕ) → whole ≡ alphabet * weight → symbol < alphabet → value < suc (block * alphabet + symbol) * weight → value < suc block * whole
step_high alphabet block symbol weight whole value is small high =
    let up : suc (block * alphabet + symbol) ≤ suc block * alphabet = omega (arith, small) in
    let more : suc (block * alphabet + symbol) * weight ≤ suc block * alphabet * weight = mul-le-mul_right weight up in
    let same : suc block * whole ≡ suc block * alphabet * weight = rw is (grind arith) in
    omega (arith, high, more, same)

pub lies_behind : (cover : CoverData) (q block at : ℕ) (e : EdgeData) → KeepsSymbols cover → Contains (words_from cover q block at) e → LiesBehind cover q block e
lies_behind cover zero block at e known found =
    let place : found.0 ≡ 0 = omega (arith, found.1) in
    let same : record { block = block; to = at } ≡ e = subst (λ k. get_or (record { block = block; to = at } ∷ []) k e ≡ e) place found.2 in
    let is : block ≡ e.block = ap (λ (x : EdgeData). x.block) same in
    let one = pow-zero cover.alphabet in
    record { low = rw one (omega (arith, is)); high = rw one (omega (arith, is)) }
lies_behind cover (suc q) block at e known found =
    let part = from_part (λ x. words_from cover q (block * cover.alphabet + x.block) x.to) (get_or cover.graph at []) e found in
    let rest = lies_behind cover q (block * cover.alphabet + part.0.block) part.0.to e known part.2 in
    record {
      low = step_low cover.alphabet block part.0.block (cover.alphabet ^ q) (cover.alphabet ^ suc q) e.block (pow-succ' cover.alphabet q) rest.low;
      high = step_high cover.alphabet block part.0.block (cover.alphabet ^ q) (cover.alphabet ^ suc q) e.block (pow-succ' cover.alphabet q)
          (symbol_below cover at part.0 known part.1) rest.high;
    }

pub words_ascend : (cover : CoverData) (q block at : ℕ) → KeepsSymbols cover → IsGraph cover.graph → IsAscending IsEdgeBefore (words_from cover q block at)
words_ascend cover zero block at known graph = tt
words_ascend cover (suc q) block at known graph =
    let F : EdgeData → List EdgeData = λ x. words_from cover q (block * cover.alphabet + x.block) x.to in
    parts_ascend F (get_or cover.graph at []) (rises cover at known graph)
    (λ e found. words_ascend cover q (block * cover.alphabet + e.block) e.to known graph)
    (λ e f x y here there less first second.
    let one = lies_behind cover q (block * cover.alphabet + e.block) e.to x known first in
    let other = lies_behind cover q (block * cover.alphabet + f.block) f.to y known second in
    let up : suc (block * cover.alphabet + e.block) * cover.alphabet ^ q ≤ (block * cover.alphabet + f.block) * cover.alphabet ^ q =
    mul-le-mul_right (cover.alphabet ^ q) (omega (arith, less)) in
    let high = one.high in
    let low = other.low in
    inl (omega (arith, up, high, low)))

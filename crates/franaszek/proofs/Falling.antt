-- One step of the descent: a number falls to what its sum allows, and stays above all solutions.
use Rattle.std.proofs.Common.{◌≡◌, ℕ, ◌+◌, ◌*◌, ◌-◌, ◌/◌, ◌<◌, ◌≤◌, List, [], ◌++◌, length, get_or, set, take, drop, replicate, inl, inr, ap, sym, ◌∙◌, subst, arith}
use Rattle.std.specs.Prelude.{All}
use Rattle.std.specs.List.{sum}
use Rattle.std.proofs.Math.Nat.{mul_comm}
use Rattle.std.proofs.lemmas.Nat.{le-div, div_below}
use Rattle.std.proofs.lemmas.Bool.{cases_lt, cases_eq}
use Rattle.std.proofs.lemmas.List.{get_or_past, get_or-set_same, get_or-set_other, length-set, get_or-replicate, length-replicate, take-append-le, take_all}
use Rattle.std.proofs.lemmas.List.Elements.{All-set, All-replicate}
use Rattle.label_graphs.specs.Matrix.{entry_at}
use Rattle.label_graphs.specs.Vector.{row_sum, IsGreatest}
use Rattle.franaszek.specs.inside.Descent.{AreRowSums, AreAbove}
use Rattle.franaszek.proofs.Products.{product_of_fall, product_le, sum_of_fall}

pub falls : (n s w : ℕ) → 2 ≤ n → s < n * w → s / n < w
falls n s w two over = div_below s n w (omega (arith, two)) (let turn = mul_comm n w in omega (arith, over, turn))

-- the sums that are lowered are those of the lowered numbers
pub sums_lowered : (matrix : List (List ℕ)) (x old new : List ℕ) (state w : ℕ) → length x ≡ length matrix → state < length x → w ≤ get_or x state 0
    → AreRowSums matrix x old → length new ≡ length matrix
    → ((from : ℕ) → from < length matrix → get_or new from 0 + entry_at matrix from state * (get_or x state 0 - w) ≡ get_or old from 0)
    → AreRowSums matrix (set x state w) new
sums_lowered matrix x old new state w size inside low known wide each = record {
  size = wide;
  each = λ from from_in.
      let fall = product_of_fall (get_or matrix from []) x state w inside low in
      let new_is = each from from_in in
      let old_is = known.each from from_in in
      omega (arith, fall, new_is, old_is);
}

-- a fallen number stays above all solutions
pub stays_above : (matrix : List (List ℕ)) (n bound : ℕ) (x sums new_x new_sums : List ℕ) (state : ℕ) → 2 ≤ n → state < length x
    → get_or sums state 0 < n * get_or x state 0 → AreAbove matrix n bound x sums → new_x ≡ set x state (get_or sums state 0 / n)
    → AreRowSums matrix new_x new_sums → AreAbove matrix n bound new_x new_sums
stays_above matrix n bound x sums new_x new_sums state two inside over known is new =
    let w = get_or sums state 0 / n in
    let lower : w < get_or x state 0 = falls n (get_or sums state 0) (get_or x state 0) two over in
    let most : get_or x state 0 ≤ bound = known.within state 0 inside in
    record {
      size = ap (λ (l : List ℕ). length l) is ∙ length-set x state w ∙ known.size;
      within = subst (λ (l : List ℕ). All (λ weight. weight ≤ bound) l) (sym is) (All-set (λ weight. weight ≤ bound) x state w (omega (arith, lower, most)) known.within);
      kept = new;
      above = λ other solution place.
          let old = known.above other solution in
          subst (λ (l : List ℕ). get_or other place 0 ≤ get_or l place 0) (sym is)
          (elim (cases_eq place state) [
            | inl same ↦ (
                let here : get_or (set x state w) place 0 ≡ w = ap (λ k. get_or (set x state w) k 0) same ∙ get_or-set_same x state w 0 inside in
                let size = solution.size in
                let wide = known.size in
                let allowed = solution.inequality state (omega (arith, inside, size, wide)) in
                let sum_is = known.kept.each state (omega (arith, inside, wide)) in
                let up = product_le (get_or matrix state []) other x (omega (arith, size, wide)) old in
                let turn = mul_comm n (get_or other state 0) in
                let low : get_or other state 0 ≤ w = le-div (get_or other state 0) (get_or sums state 0) n (omega (arith, two)) (omega (arith, allowed, sum_is, up, turn)) in
                let there : get_or other place 0 ≡ get_or other state 0 = ap (λ k. get_or other k 0) same in
                omega (arith, here, low, there))
            | inr different ↦ (
                let here = get_or-set_other x state place w 0 different in
                let low = old place in
                omega (arith, here, low))
          ]);
    }

-- and the numbers add up to less
pub adds_up_to_less : (n : ℕ) (x sums new_x : List ℕ) (state : ℕ) → 2 ≤ n → state < length x → get_or sums state 0 < n * get_or x state 0
    → new_x ≡ set x state (get_or sums state 0 / n) → sum new_x < sum x
adds_up_to_less n x sums new_x state two inside over is =
    subst (λ (l : List ℕ). sum l < sum x) (sym is)
    (sum_of_fall x state (get_or sums state 0 / n) inside (falls n (get_or sums state 0) (get_or x state 0) two over))

solution_below : (count bound : ℕ) (other : List ℕ) → length other ≡ count → All (λ weight. weight ≤ bound) other → (state : ℕ) → get_or other state 0 ≤ get_or (replicate count bound) state 0
solution_below count bound other size within state = elim (cases_lt state count) [
  | inl inside ↦ (
      let low = within state 0 (omega (arith, inside, size)) in
      let is = get_or-replicate count state bound 0 inside in
      omega (arith, low, is))
  | inr outside ↦ (let past = get_or_past other state 0 (omega (arith, outside, size)) in omega (arith, past))
]

-- the bound everywhere is above all solutions
pub bound_above : (matrix : List (List ℕ)) (n bound : ℕ) (x sums : List ℕ) → x ≡ replicate (length matrix) bound
    → AreRowSums matrix (replicate (length matrix) bound) sums → AreAbove matrix n bound x sums
bound_above matrix n bound x sums is known = record {
  size = ap (λ (l : List ℕ). length l) is ∙ length-replicate (length matrix) bound;
  within = subst (λ (l : List ℕ). All (λ weight. weight ≤ bound) l) (sym is) (All-replicate (λ weight. weight ≤ bound) (length matrix) bound (omega arith));
  kept = subst (λ (l : List ℕ). AreRowSums matrix l sums) (sym is) known;
  above = λ other solution state.
      subst (λ (l : List ℕ). get_or other state 0 ≤ get_or l state 0) (sym is) (solution_below (length matrix) bound other solution.size solution.within state);
}

-- where no number is too great they are the greatest solution
pub greatest_by : (matrix : List (List ℕ)) (n bound : ℕ) (x sums : List ℕ) → AreAbove matrix n bound x sums
    → ((state : ℕ) → state < length x → n * get_or x state 0 ≤ get_or sums state 0) → IsGreatest (row_sum matrix) (length matrix) n bound x
greatest_by matrix n bound x sums known none = record {
  solution = record {
    size = known.size;
    within = known.within;
    inequality = λ state inside.
        let low = none state inside in
        let is = known.kept.each state (let size = known.size in omega (arith, inside, size)) in
        omega (arith, low, is);
  };
  greatest = known.above;
}

-- a vector after its slice is written back
pub written_back : (n : ℕ) (new old : List ℕ) → length new ≡ n → take n (new ++ drop (length new) old) ≡ new
written_back n new old is = take-append-le n new (drop (length new) old) (omega arith) ∙ take_all n new (omega arith)

pub above_same : (matrix : List (List ℕ)) (n bound : ℕ) (x sums new_x new_sums : List ℕ) → new_x ≡ x → new_sums ≡ sums → AreAbove matrix n bound x sums
    → AreAbove matrix n bound new_x new_sums
above_same matrix n bound x sums new_x new_sums x_is sums_are known =
    subst (λ (l : List ℕ). AreAbove matrix n bound l new_sums) (sym x_is)
    (subst (λ (l : List ℕ). AreAbove matrix n bound x l) (sym sums_are) known)

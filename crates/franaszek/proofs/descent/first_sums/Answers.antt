use Rattle.std.proofs.Common.{◌≡◌, ◌*◌, ◌+◌, ℕ, List, [], ◌∷◌, length, get_or, replicate, inl, inr, ap, sym, ◌∙◌, arith}
use Rattle.std.specs.List.{sum}
use Rattle.std.proofs.lemmas.Bool.{cases_lt}
use Rattle.std.proofs.lemmas.List.{get_or_append_left, get_or_push, length_push}
use Rattle.label_graphs.specs.Vector.{product_sum, row_sum}
use Rattle.franaszek.proofs.Products.{product_of_one}
use Rattle.franaszek.proofs.descent.first_sums.Goals as goal

pub loop-state-preserved : goal.loop-state-preserved
loop-state-preserved c =
    let matrix = c.args.matrix.now in
    let bound = c.args.bound in
    let state = c.loop-state.state in
    let sums = c.loop-state.sums.items in
    let value = c.entry_total.result * c.from.result in
    let row = get_or matrix state [] in
    let grown = c.in_ok-push.ensures.items in
    let size = c.loop-state.invariant.size in
    let wide : length row ≡ length matrix = c.size-states.ensures.kept.square state [] (omega (arith, c.loop-state-test.true, c.size-states.ensures.size)) in
    let total : c.entry_total.result ≡ sum row = c.entry_total.ensures ∙ ap (λ (l : List ℕ). sum l) c.row.ensures.entries in
    let here : value ≡ row_sum matrix (replicate (length matrix) bound) state =
    ap (λ n. c.entry_total.result * n) c.from.ensures ∙ ap (λ n. n * bound) total ∙ sym (product_of_one row bound) ∙ ap (λ n. product_sum row (replicate n bound)) wide in
    record {
      size = ap (λ (l : List ℕ). length l) grown ∙ length_push sums value ∙ ap (λ n. n + 1) size;
      each = λ k below. ap (λ (l : List ℕ). get_or l k 0) grown ∙ elim (cases_lt k state) [
        | inl low ↦ get_or_append_left sums (value ∷ []) 0 k (omega (arith, size, low)) ∙ c.loop-state.invariant.each k low
        | inr high ↦ (
            let last : state ≡ k = omega (arith, high, below) in
            get_or_push sums value 0 k (size ∙ last) ∙ here ∙ ap (λ s. row_sum matrix (replicate (length matrix) bound) s) last)
      ];
    }

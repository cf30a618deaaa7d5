use Rattle.std.proofs.Common.{◌≡◌, ◌≤◌, List, length, ap, sym, ◌∙◌, subst, arith, add-one}
use Rattle.std.specs.Global.{Vec}
use Rattle.std.specs.List.{sum}
use Rattle.std.specs.Prelude.{ℕ, All, ◌^◌}
use Rattle.std.proofs.lemmas.List.{length-map}
use Rattle.label_graphs.specs.Matrix.{CountsWords}
use Rattle.label_graphs.specs.Views.{matrix_data}
use Rattle.graph_power.specs.inside.Words.{AreCounts, IsSquareWithin}
use Rattle.graph_power.proofs.Steps.{is_matrix, square_within}
use Rattle.graph_power.proofs.WholePower.{counts_words, rows_small}
use Rattle.graph_power.proofs.counting.counts.Goals as goal

pub of_one_symbol_more-requires-clause-size : goal.of_one_symbol_more-requires-clause-size
of_one_symbol_more-requires-clause-size c =
    ap (λ (l : List (Vec ℕ)). length l) c.deref.ensures.value
    ∙ sym (length-map c.loop-symbol.rows.items (λ row. row.items)) ∙ c.loop-symbol.invariant.size

pub of_one_symbol_more-requires-clause-square : goal.of_one_symbol_more-requires-clause-square
of_one_symbol_more-requires-clause-square c =
    subst (λ (l : List (Vec ℕ)). IsSquareWithin (2 ^ 38) (matrix_data l)) (sym c.deref.ensures.value)
    (square_within c.args.cover.now c.loop-symbol._symbol (matrix_data c.loop-symbol.rows.items)
    (omega (arith, c.loop-symbol-test.true, c.requires.twenty)) c.in_ok-rows.ensures.symbols c.in_ok-rows.ensures.graph c.loop-symbol.invariant)

pub loop-symbol-preserved : goal.loop-symbol-preserved
loop-symbol-preserved c =
    let s = c.loop-symbol._symbol in
    let graph = c.args.cover.now.graph in
    let old : AreCounts graph s (matrix_data c.deref.result.now) =
    subst (λ (l : List (Vec ℕ)). AreCounts graph s (matrix_data l)) (sym c.deref.ensures.value) c.loop-symbol.invariant in
    subst (λ k. AreCounts graph k (matrix_data c.in_ok-more.more.items)) (sym (add-one s)) (c.in_ok-more.ensures s old)

pub from_rows-requires : goal.from_rows-requires
from_rows-requires c = is_matrix c.args.cover.now.graph c.loop-symbol._symbol (matrix_data c.loop-symbol.rows.items) c.in_ok-rows.ensures.graph c.loop-symbol.invariant

pub returns-clause-words : goal.returns-clause-words
returns-clause-words c =
    let cover = c.args.cover.now in
    let end : c.loop-symbol._symbol ≡ c.args.q = omega (arith, c.loop-symbol-test.false, c.loop-symbol.auto._symbol-end) in
    subst (λ (m : List (List ℕ)). CountsWords cover c.args.q m) (sym c.from_rows.ensures)
    (counts_words cover c.args.q (matrix_data c.loop-symbol.rows.items) c.requires.one c.in_ok-rows.ensures.symbols c.in_ok-rows.ensures.graph
    (subst (λ k. AreCounts cover.graph k (matrix_data c.loop-symbol.rows.items)) end c.loop-symbol.invariant))

pub returns-clause-small : goal.returns-clause-small
returns-clause-small c =
    let cover = c.args.cover.now in
    let few : c.loop-symbol._symbol ≤ 20 = omega (arith, c.loop-symbol.auto._symbol-end, c.requires.twenty) in
    subst (λ (m : List (List ℕ)). All (λ (row : List ℕ). sum row ≤ 2 ^ 40) m) (sym c.from_rows.ensures)
    (rows_small cover c.loop-symbol._symbol (matrix_data c.loop-symbol.rows.items) few c.in_ok-rows.ensures.symbols c.in_ok-rows.ensures.graph c.loop-symbol.invariant)

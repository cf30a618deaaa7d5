use Rattle.std.proofs.Common.{◌∙◌, ◌*◌, ℕ, List, sym, ap, arith, length-set, take, drop, subst}
use Rattle.std.specs.Prelude.{All}
use Rattle.std.proofs.lemmas.List.Elements.{All-take, All-drop}
use Rattle.gf256.specs.Field.{IsElement}
use Rattle.gf256.specs.Linear.{values, scaled}
use Rattle.rs_code.proofs.Steps.{values-take, values-drop}
use Rattle.rs_code.proofs.Patterns.{all_of}
use Rattle.rs_code.proofs.Division.{Elements-scaled}
use Rattle.rs_code.proofs.Registers.{packed_row, rows_more}
use Rattle.rs_code.proofs.coder.sixteen_multiples.Goals as goal

-- a row has elements alone
row_in : (c : goal.After-row-1) → All IsElement (values c.multiple-row.result)
row_in c =
    let g : List ℕ = values c.args.polynomial.now in
    subst (All IsElement) (sym c.multiple-row.ensures) (all_of (scaled (c.args.factor * c.loop-k.k) g) (Elements-scaled (c.args.factor * c.loop-k.k) g))

pub packed-requires-clause-elements : goal.packed-requires-clause-elements
packed-requires-clause-elements c =
    subst (All IsElement) (sym (values-take 16 c.multiple-row.result)) (All-take IsElement 16 (values c.multiple-row.result) (row_in c))

pub packed-requires-in-loop-k-clause-elements : goal.packed-requires-in-loop-k-clause-elements
packed-requires-in-loop-k-clause-elements c =
    let g : List ℕ = values c.args.polynomial.now in
    let multiple : List ℕ = scaled (c.args.factor * c.loop-k.k) g in
    let row_in : All IsElement (values c.multiple-row.result) =
    subst (All IsElement) (sym c.multiple-row.ensures) (all_of multiple (Elements-scaled (c.args.factor * c.loop-k.k) g)) in
    subst (All IsElement) (sym (values-take 16 (drop 16 c.multiple-row.result) ∙ ap (take 16) (values-drop 16 c.multiple-row.result)))
    (All-take IsElement 16 (drop 16 (values c.multiple-row.result)) (All-drop IsElement 16 (values c.multiple-row.result) row_in))

pub loop-k-preserved : goal.loop-k-preserved
loop-k-preserved c = record {
  high_full = length-set c.loop-k.high c.loop-k.k c.packed.result ∙ c.loop-k.invariant.high_full;
  low_full = length-set c.loop-k.low c.loop-k.k c.packed-in-loop-k.result ∙ c.loop-k.invariant.low_full;
  rows = rows_more c.loop-k.high c.loop-k.low (λ k. scaled (c.args.factor * k) (values c.args.polynomial.now)) c.loop-k.k c.packed.result c.packed-in-loop-k.result
      (omega (arith, c.loop-k.invariant.high_full, c.loop-k-test.true)) (omega (arith, c.loop-k.invariant.low_full, c.loop-k-test.true))
      c.loop-k.invariant.rows
      (packed_row c.multiple-row.result c.packed.result c.packed-in-loop-k.result (omega arith) c.packed.ensures c.packed-in-loop-k.ensures ∙ c.multiple-row.ensures);
}

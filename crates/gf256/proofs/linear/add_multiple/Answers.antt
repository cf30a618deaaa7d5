use Rattle.std.proofs.Common.{get_or, arith, ap, ◌∙◌}
use Rattle.gf256.specs.Field.{plus}
use Rattle.gf256.specs.Linear.{values}
use Rattle.gf256.specs.Elimination.{plus_multiple}
use Rattle.gf256.proofs.Lists.{length-values, length-plus_multiple}
use Rattle.gf256.proofs.RowSteps.{plus_multiple_more, plus_multiple_all, element_more, elements_all}
use Rattle.gf256.proofs.linear.add_multiple.Goals as goal

pub loop-i-preserved : goal.loop-i-preserved
loop-i-preserved c =
    let old = c.args.row.now in
    let other = c.args.other.now in
    let factor = c.args.factor.value in
    let old_length = length-values old in
    let other_length = length-values other in
    record {
      so_far =
          plus_multiple_more c.loop-i.row old other factor c.loop-i.i (record { value = 0 }) c.add.result
          c.loop-i.auto.row c.requires c.loop-i-test.true c.loop-i.invariant.so_far
          (c.add.ensures.value ∙ ap (λ s. plus (get_or c.loop-i.row c.loop-i.i (record { value = 0 })).value s) c.mul.ensures.value);
      elements =
          element_more c.loop-i.row old (plus_multiple (values old) factor (values other)) c.loop-i.i (record { value = 0 })
          c.loop-i.auto.row (length-plus_multiple (values old) factor (values other) (omega arith)) c.loop-i-test.true c.loop-i.invariant.so_far c.add.ensures.elements.0 c.loop-i.invariant.elements;
    }

pub returns-clause-sum : goal.returns-clause-sum
returns-clause-sum c =
    plus_multiple_all c.loop-i.row c.args.row.now c.args.other.now c.args.factor.value c.loop-i.i c.requires c.loop-i-test.false c.loop-i.invariant.so_far

pub returns-clause-elements : goal.returns-clause-elements
returns-clause-elements c = elements_all c.args.row.now c.loop-i.i c.loop-i-test.false c.loop-i.invariant.elements

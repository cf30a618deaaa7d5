use Rattle.gf256.specs.Linear.{values, scaled}
use Rattle.gf256.proofs.RowSteps.{scaled_more, scaled_all, length-scaled, element_more, elements_all}
use Rattle.gf256.proofs.linear.scale.Goals as goal

pub loop-entry-preserved : goal.loop-entry-preserved
loop-entry-preserved c =
    let old = c.args.row.now in
    let factor = c.args.factor.value in
    record {
      so_far =
          scaled_more c.loop-entry.row old factor c.loop-entry.entry-index (record { value = 0 }) c.mul.result
          c.loop-entry.auto.row c.loop-entry-test.true c.loop-entry.invariant.so_far c.mul.ensures.value;
      elements =
          element_more c.loop-entry.row old (scaled factor (values old)) c.loop-entry.entry-index (record { value = 0 })
          c.loop-entry.auto.row (length-scaled factor (values old)) c.loop-entry-test.true c.loop-entry.invariant.so_far c.mul.ensures.elements.1 c.loop-entry.invariant.elements;
    }

pub returns-clause-product : goal.returns-clause-product
returns-clause-product c =
    scaled_all c.loop-entry.row c.args.row.now c.args.factor.value c.loop-entry.entry-index c.loop-entry-test.false c.loop-entry.invariant.so_far

pub returns-clause-elements : goal.returns-clause-elements
returns-clause-elements c = elements_all c.args.row.now c.loop-entry.entry-index c.loop-entry-test.false c.loop-entry.invariant.elements

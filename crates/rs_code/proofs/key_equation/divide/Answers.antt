use Rattle.std.proofs.Common.{arith}
use Rattle.rs_code.proofs.Division.{still_divides, partial_none, partial_more, partial_all}
use Rattle.rs_code.proofs.key_equation.divide.Goals as goal

pub loop-rest-init : goal.loop-rest-init
loop-rest-init c = record {
  can = c.requires;
  at_most = omega arith;
  partial = λ t sums small enough row. partial_none t sums c.args.rest.now c.args.here.now row;
}

pub loop-rest-preserved : goal.loop-rest-preserved
loop-rest-preserved c =
    let before = c.loop-rest.invariant in
    record {
      can = still_divides c.loop-rest.rest c.args.here.now c.reduce.new.rest before.can c.reduce.ensures;
      at_most = omega (arith, before.at_most, c.reduce.ensures.shorter);
      partial = λ t sums small enough row.
          partial_more t sums c.args.rest.now c.args.here.now c.loop-rest.rest c.reduce.new.rest small enough row before.can
          c.loop-rest-test.true before.at_most (before.partial t sums small enough row) c.reduce.ensures;
    }

pub returns : goal.returns
returns c = λ t sums small enough row.
    partial_all t sums c.args.rest.now c.args.here.now c.loop-rest.rest row (c.loop-rest.invariant.partial t sums small enough row)
    (omega (arith, c.loop-rest-test.false))

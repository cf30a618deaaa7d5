use Rattle.std.proofs.Common.{◌∙◌, arith, ap, sym, subst}
use Rattle.gf256.specs.Linear.{values}
use Rattle.gf256.proofs.Lists.{length-values}
use Rattle.rs_code.proofs.Steps.{values-take}
use Rattle.rs_code.proofs.Division.{first_row, can_divide, pair_of, factor_nonzero, no_common_root}
use Rattle.rs_code.specs.inside.Division.{AreInARow}
use Rattle.rs_code.proofs.key_equation.key_pair.Goals as goal

pub loop-here-init : goal.loop-here-init
loop-here-init c = record {
  row = first_row c.args.t (values c.args.sums.now) c.power-above.result c.sums_below-here.result
      (omega (arith, c.requires.most, length-values c.args.sums.now)) c.power-above.ensures.length c.power-above.ensures.power
      c.power-above.ensures.factor c.sums_below-here.ensures.coefficients c.sums_below-here.ensures.has_length
      c.sums_below-here.ensures.short c.sums_below-here.ensures.factor c.sums_below-here.ensures.elements;
  enough = omega (arith, c.power-above.ensures.length);
}

pub divide-requires : goal.divide-requires
divide-requires c =
    can_divide c.args.t (values c.args.sums.now) c.loop-here.above c.loop-here.here c.requires.most (omega (arith, c.loop-here-test.true)) c.loop-here.invariant.row

-- the two that the next turn begins with
next_row : (c : goal.After-swap) → AreInARow c.args.t (values c.args.sums.now) c.swap.new.x c.swap.new.y
next_row c =
    subst (AreInARow c.args.t (values c.args.sums.now) c.swap.new.x) (sym c.swap.ensures.y_after)
    (subst (λ above. AreInARow c.args.t (values c.args.sums.now) above c.divide.new.rest) (sym c.swap.ensures.x_after)
    (c.divide.ensures c.args.t (values c.args.sums.now) c.requires.most (omega (arith, c.loop-here-test.true)) c.loop-here.invariant.row))

pub loop-here-smaller : goal.loop-here-smaller
loop-here-smaller c = omega (arith, (next_row c).shorter, ap (λ r. r.length) c.swap.ensures.x_after)

pub loop-here-preserved : goal.loop-here-preserved
loop-here-preserved c = record { row = next_row c; enough = omega (arith, c.loop-here-test.true, ap (λ r. r.length) c.swap.ensures.x_after) }

pub returns-clause-pair : goal.returns-clause-pair
returns-clause-pair c =
    pair_of c.args.t (values c.args.sums.now) c.loop-here.above c.loop-here.here _ _ c.requires.most c.loop-here.invariant.enough
    (omega (arith, c.loop-here-test.false)) c.loop-here.invariant.row
    (ap values c.front.ensures ∙ values-take 17 c.loop-here.here.factor) (ap values c.front-2.ensures ∙ values-take 16 c.loop-here.here.coefficients)

pub returns-clause-nonzero : goal.returns-clause-nonzero
returns-clause-nonzero c =
    factor_nonzero c.args.t (values c.args.sums.now) c.loop-here.above c.loop-here.here _ c.requires.most c.loop-here.invariant.enough
    c.loop-here.invariant.row (ap values c.front.ensures ∙ values-take 17 c.loop-here.here.factor)

pub returns-clause-no_common_root : goal.returns-clause-no_common_root
returns-clause-no_common_root c =
    no_common_root c.args.t (values c.args.sums.now) c.loop-here.above c.loop-here.here _ _ c.requires.most c.loop-here.invariant.enough
    (omega (arith, c.loop-here-test.false)) c.loop-here.invariant.row
    (ap values c.front.ensures ∙ values-take 17 c.loop-here.here.factor) (ap values c.front-2.ensures ∙ values-take 16 c.loop-here.here.coefficients)

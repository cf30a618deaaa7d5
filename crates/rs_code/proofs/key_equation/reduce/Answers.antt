use Rattle.std.proofs.Common.{◌-◌, arith}
use Rattle.rs_code.proofs.Division.{reduced_list, reduced_coefficients, reduced_degree}
use Rattle.rs_code.proofs.key_equation.reduce.Goals as goal

pub length_of-rest-requires-clause-degree : goal.length_of-rest-requires-clause-degree
length_of-rest-requires-clause-degree c =
    reduced_degree c.args.rest.now c.args.here.now _ c.requires.can_divide c.requires.fits
    (reduced_coefficients c.args.rest.now c.args.here.now c.add_multiple.new.to c.mul-scale.result.value c.inv.result.value
    c.add_multiple.ensures.0 c.requires.can_divide (omega arith) c.add_multiple.ensures.1 c.add_multiple.ensures.2
    c.add_multiple.ensures.3 c.mul-scale.ensures.value c.inv.ensures.value)

pub returns : goal.returns
returns c =
    let rest = c.args.rest.now in
    let here = c.args.here.now in
    record {
      coefficients = reduced_coefficients rest here c.add_multiple.new.to c.mul-scale.result.value c.inv.result.value
          c.add_multiple.ensures.0 c.requires.can_divide (omega arith) c.add_multiple.ensures.1 c.add_multiple.ensures.2
          c.add_multiple.ensures.3 c.mul-scale.ensures.value c.inv.ensures.value;
      factor = reduced_list rest.coefficients here.coefficients (rest.length - 1) (here.length - 1) rest.factor here.factor
          c.add_shifted.new.to c.mul-scale.result.value c.inv.result.value (rest.length - here.length) 16
          c.add_shifted.ensures c.mul-scale.ensures.value c.inv.ensures.value;
      has_length = c.length_of-rest.ensures.has_length;
      shorter = omega (arith, c.length_of-rest.ensures.most, c.requires.can_divide.some, c.requires.fits);
    }

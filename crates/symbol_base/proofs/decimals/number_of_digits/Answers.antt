use Rattle.std.proofs.Common.{◌≡◌, ap, ◌∙◌, arith}
use Rattle.std.specs.Str.Parse.{digits_value}
use Rattle.std.proofs.lemmas.List.{take_all}
use Rattle.symbol_base.proofs.DecimalLemmas.{value_below, spelled_by_value, next_digit, next_fits}
use Rattle.symbol_base.proofs.decimals.number_of_digits.Goals as goal

pub overflow_mul-number : goal.overflow_mul-number
overflow_mul-number c =
    let fits = next_fits c.args.text.now c.loop-digit.digit-index c.requires (omega arith) in
    omega (arith, c.loop-digit.invariant)

pub overflow_add-number : goal.overflow_add-number
overflow_add-number c =
    let fits = next_fits c.args.text.now c.loop-digit.digit-index c.requires (omega arith) in
    omega (arith, c.loop-digit.invariant, c.from.ensures)

pub loop-digit-preserved : goal.loop-digit-preserved
loop-digit-preserved c =
    let more = next_digit c.args.text.now c.loop-digit.digit-index c.requires (omega arith) in
    omega (arith, c.loop-digit.invariant, c.from.ensures)

pub returns-clause-below : goal.returns-clause-below
returns-clause-below c =
    let whole : c.loop-digit.number ≡ digits_value 10 c.args.text.now =
    c.loop-digit.invariant ∙ ap (digits_value 10) (take_all c.loop-digit.digit-index c.args.text.now (omega arith)) in
    rw whole (value_below c.args.text.now c.requires)

pub returns-clause-spelled : goal.returns-clause-spelled
returns-clause-spelled c =
    let whole : c.loop-digit.number ≡ digits_value 10 c.args.text.now =
    c.loop-digit.invariant ∙ ap (digits_value 10) (take_all c.loop-digit.digit-index c.args.text.now (omega arith)) in
    rw whole (spelled_by_value c.args.text.now c.requires)

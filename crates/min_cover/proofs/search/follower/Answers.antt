use Rattle.std.proofs.Common.{inr, refl, ap, ◌∙◌}
use Rattle.std.specs.Option.{option_map}
use Rattle.std.proofs.lemmas.Result.{err_from_is_err_and}
use Rattle.min_cover.specs.inside.States.{raw_of}
use Rattle.min_cover.proofs.Numbering.{step_read}
use Rattle.min_cover.proofs.search.follower.Goals as goal

pub returns-in_err-number_of-in-Some : goal.returns-in_err-number_of-in-Some
returns-in_err-number_of-in-Some c =
    let d = c.args.constraint.now in
    let step = step_read d c.args.found.now.keys c.args.at c.args.symbol c.index.result.now c.in_ok-next.field-0 c.index.ensures c.in_ok-next.ensures in
    let p = err_from_is_err_and c.from_residual-in_err-number_of-in-Some.result c.from_residual-in_err-number_of-in-Some.ensures.1 in
    rw (p.1, p.2) (inr (raw_of c.in-Some.next, step ∙ ap (option_map raw_of) c.in-Some.is, c.in_err-number_of-in-Some.ensures d))

pub returns-in_ok-number_of-in-Some : goal.returns-in_ok-number_of-in-Some
returns-in_ok-number_of-in-Some c =
    let d = c.args.constraint.now in
    let step = step_read d c.args.found.now.keys c.args.at c.args.symbol c.index.result.now c.in_ok-next.field-0 c.index.ensures c.in_ok-next.ensures in
    (raw_of c.in-Some.next, step ∙ ap (option_map raw_of) c.in-Some.is, c.in_ok-number_of-in-Some.ensures d)

pub returns-in-None : goal.returns-in-None
returns-in-None c =
    let d = c.args.constraint.now in
    let step = step_read d c.args.found.now.keys c.args.at c.args.symbol c.index.result.now c.in_ok-next.field-0 c.index.ensures c.in_ok-next.ensures in
    (refl, step ∙ ap (option_map raw_of) c.in-None.is)

use Rattle.std.proofs.Common.{◌^◌, ap}
use Rattle.code_spec.specs.Code.{CodeData}
use Rattle.code_check.proofs.LeastPairs.{least_told, inside_told, none_told}
use Rattle.code_check.proofs.ambiguity.least_walk_of_pairs.Goals as goal

pub returns-clause-least : goal.returns-clause-least
returns-clause-least c =
    least_told c.args.code.now c.in_ok-pairs.pairs _ _ _ c.least_unlike_walk.result c.of.ensures.table
    c.in_ok-pairs.ensures.code (ap (λ (d : CodeData). 2 ^ d.p) c.in_ok-pairs.ensures.code) (ap (λ (d : CodeData). d.past) c.code.view_is)
    (ap (λ (d : CodeData). d.ahead) c.code.view_is) c.least_unlike_walk.ensures.least

pub returns-clause-inside : goal.returns-clause-inside
returns-clause-inside c =
    inside_told c.args.code.now c.in_ok-pairs.pairs _ _ _ c.least_unlike_walk.result c.in_ok-pairs.ensures.code
    c.least_unlike_walk.ensures.least

pub returns-clause-none : goal.returns-clause-none
returns-clause-none c =
    none_told c.args.code.now c.in_ok-pairs.pairs _ _ _ c.least_unlike_walk.result c.of.ensures.table
    c.in_ok-pairs.ensures.code (ap (λ (d : CodeData). 2 ^ d.p) c.in_ok-pairs.ensures.code) (ap (λ (d : CodeData). d.past) c.code.view_is)
    (ap (λ (d : CodeData). d.ahead) c.code.view_is) c.least_unlike_walk.ensures.none

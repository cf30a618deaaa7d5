use Rattle.design_steps.proofs.VectorLaws.{found_is_least, none_is_found}
use Rattle.design_steps.proofs.stages.least_vector.Goals as goal

pub returns-clause-least : goal.returns-clause-least
returns-clause-least c = λ power is. found_is_least c.args.cover.now c.args.q c.args.n c.args.bound power c.in_ok-matrix.matrix c.least_bound.result is c.in_ok-matrix.ensures.words
    c.least_bound.ensures.within c.least_bound.ensures.least c.least_bound.ensures.greatest

pub returns-clause-none : goal.returns-clause-none
returns-clause-none c = λ power is. none_is_found c.args.cover.now c.args.q c.args.n c.args.bound power c.in_ok-matrix.matrix c.least_bound.result is c.in_ok-matrix.ensures.words
    c.least_bound.ensures.none

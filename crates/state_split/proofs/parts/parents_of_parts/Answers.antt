use Rattle.std.proofs.Common.{[], ◌∷◌, ◌++◌, arith, ap, ◌∙◌}
use Rattle.state_split.proofs.PartNumbers.{own_more, parents_count}
use Rattle.state_split.proofs.parts.parents_of_parts.Goals as goal

pub loop-state-preserved : goal.loop-state-preserved
loop-state-preserved c =
    let old = c.loop-state.parents.items in
    own_more c.loop-state.state old c.push.new.self.items c.loop-state.invariant (c.in_ok-push.ensures.items ∙ ap (λ n. old ++ n ∷ []) c.at.ensures.value)

pub from_parents-requires : goal.from_parents-requires
from_parents-requires c =
    let count = parents_count c.args.states c.loop-split.split-index c.args.splits.now c.loop-split.parents.items c.loop-split.invariant in
    omega arith

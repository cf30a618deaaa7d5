use Rattle.std.proofs.Common.{sym, ◌∙◌}
use Rattle.label_graphs.proofs.EdgeOrder.{same_graphs}
use Rattle.label_graphs.proofs.a_cover_has_one_power.Goals as goal

pub returns : goal.returns
returns c = λ cover q rows others one other.
    same_graphs rows others one.graph other.graph (one.states ∙ sym other.states)
    (λ from block to edge. (other.edges from block to).1 ((one.edges from block to).0 edge))
    (λ from block to edge. (one.edges from block to).1 ((other.edges from block to).0 edge))

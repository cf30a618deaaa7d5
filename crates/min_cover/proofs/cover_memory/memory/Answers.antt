use Rattle.std.proofs.Common.{◌≡◌, List, length, ap, subst}
use Rattle.label_graphs.specs.Graph.{EdgeData, HasEdge}
use Rattle.label_graphs.specs.Cover.{CoverData}
use Rattle.label_graphs.specs.Memory.{IsLeastReadBack}
use Rattle.min_cover.specs.inside.Pairs.{pair_count, pair_step, HasCycle}
use Rattle.min_cover.proofs.PairWalks.{cycle_together}
use Rattle.min_cover.proofs.cover_memory.memory.Goals as goal

pub returns-then-order-clause-fault : goal.returns-then-order-clause-fault
returns-then-order-clause-fault c =
    let rows = c.args.cover.now.graph in
    let same : c.of-pairs.result.graph ≡ rows = ap (λ (d : CoverData). d.graph) c.of-pairs.ensures.cover in
    let cycle : HasCycle (pair_step rows) (pair_count rows) =
    subst (λ (l : List (List EdgeData)). HasCycle (pair_step l) (pair_count l)) same (c.in_ok-order.ensures.cycle c.if-order.true) in (
      (λ n. cycle_together rows c.of-pairs.ensures.graph cycle.here cycle.inside cycle.back n),
      subst (λ (l : List (List EdgeData)). IsLeastReadBack (length l) (HasEdge l) c.in_ok-two.two.first c.in_ok-two.two.second c.in_ok-two.two.word) same c.in_ok-two.ensures,
    )

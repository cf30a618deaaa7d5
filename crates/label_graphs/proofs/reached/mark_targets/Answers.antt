use Rattle.std.proofs.Common.{◌<◌, length, map, sym, subst, arith}
use Rattle.label_graphs.proofs.Searching.{edge_taken}
use Rattle.label_graphs.proofs.reached.mark_targets.Goals as goal

pub loop-edge-preserved : goal.loop-edge-preserved
loop-edge-preserved g c =
    let number = g.N.Name.number in
    let edges = c.args.edges.now in
    let i = c.loop-edge.edge-index in
    let e = c.edge-item.result in
    let fits : number e.to < length c.loop-edge.marks =
    subst (λ x. number x.to < length c.loop-edge.marks) (sym c.edge-item.is) (omega (arith, c.requires i e c.loop-edge-test.true)) in
    edge_taken number edges i e c.args.marks.now c.loop-edge.marks c.mark.new.marks (map number c.args.found.now.items)
    (map number c.loop-edge.found.items) (map number c.mark.new.found.items) c.loop-edge-test.true c.edge-item.is fits c.in_ok-mark.ensures c.loop-edge.invariant

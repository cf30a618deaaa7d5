use Rattle.std.proofs.Common.{ap, ◌∙◌}
use Rattle.state_split.specs.Views.{edges_data}
use Rattle.state_split.specs.inside.Parts.{IsTakenBy}
use Rattle.state_split.proofs.PartEdges.{run_inside, edge_listed, edge_picked, edge_left}
use Rattle.state_split.proofs.parts.edges_of_part.Goals.{then-takes+in_ok-push, else-takes}
use Rattle.state_split.proofs.parts.edges_of_part.Goals as goal

pub takes-requires-clause-run_inside : goal.takes-requires-clause-run_inside
takes-requires-clause-run_inside c = run_inside c.args.weights.now c.args.row.now c.args.split.now c.requires.run c.requires.inside

pub loop-edge-preserved : goal.loop-edge-preserved
loop-edge-preserved c =
    let row = c.args.row.now in
    let i = c.loop-edge.edge-index in
    let e = c.edge-item.result in
    let low = c.loop-edge-test.true in
    let old = c.loop-edge.edges.items in
    let tells = c.takes.ensures (edges_data row) c.requires.run (edge_listed row i e low c.edge-item.is) in
    let is_taken = IsTakenBy c.args.part c.args.split.now.run in
    elim c.if-takes.branch [
      | then-takes+in_ok-push w ↦
          edge_picked row i e is_taken old c.if-takes.edges.items c.loop-edge.invariant c.requires.order low c.edge-item.is
          (ap (λ v. v.items) w.edges-is ∙ w.in_ok-push.ensures.items) (tells.0 w.if-takes.true)
      | else-takes w ↦
          edge_left row i e is_taken old c.if-takes.edges.items c.loop-edge.invariant low c.edge-item.is
          (ap (λ v. v.items) w.edges-is) (λ taken. absurd (let no_test = w.if-takes.false in let test = tells.1 taken in cc))
    ]

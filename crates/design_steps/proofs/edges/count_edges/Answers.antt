use Rattle.std.proofs.Common.{◌≡◌, [], length, get_or, map, ap, ◌∙◌, arith}
use Rattle.std.proofs.lemmas.List.{length-map}
use Rattle.label_graphs.specs.Views.{edge_data}
use Rattle.sink_part.proofs.Spreads.{edges_so_far}
use Rattle.design_steps.proofs.edges.count_edges.Goals as goal

pub overflow_add-count : goal.overflow_add-count
overflow_add-count c =
    let n = c.loop-state.state in
    let here = edges_so_far c.args.power.now n (omega (arith, c.loop-state-test.true, c.states-state-end.ensures.count)) in
    let at : map (edge_data (λ name. name)) c.row.result.now ≡ get_or c.args.power.now n [] = c.row.ensures.edges ∙ ap (λ k. get_or c.args.power.now k []) c.at.ensures.again in
    omega (arith, here.1, c.requires, ap (λ es. length es) at, length-map c.row.result.now (edge_data (λ name. name)), c.loop-state.invariant)

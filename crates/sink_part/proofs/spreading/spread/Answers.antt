use Rattle.std.proofs.Common.{◌≡◌, [], length, get_or, map, ap, sym, ◌∙◌, arith}
use Rattle.std.proofs.lemmas.List.{length-map}
use Rattle.label_graphs.specs.Views.{edge_data}
use Rattle.label_graphs.proofs.Renumbered.{targets_inside}
use Rattle.sink_part.proofs.Spreads.{edges_so_far, spread_more}
use Rattle.sink_part.proofs.spreading.spread.Goals as goal

pub target_weight-total-requires-clause-inside : goal.target_weight-total-requires-clause-inside
target_weight-total-requires-clause-inside c =
    targets_inside (λ name. name) c.args.graph.now c.at.result (length c.args.weights.now) c.row.result.now c.row.ensures.edges c.row.ensures.kept (sym c.requires.sizes)

pub target_weight-total-requires-clause-few : goal.target_weight-total-requires-clause-few
target_weight-total-requires-clause-few c =
    let n = c.loop-state.state in
    let here = edges_so_far c.args.graph.now n (omega (arith, c.loop-state-test.true, c.states-state-end.ensures.count)) in
    let at : map (edge_data (λ name. name)) c.row.result.now ≡ get_or c.args.graph.now n [] = c.row.ensures.edges ∙ ap (λ k. get_or c.args.graph.now k []) c.at.ensures.again in
    omega (arith, here.1, c.requires.few, ap (λ es. length es) at, length-map c.row.result.now (edge_data (λ name. name)))

pub overflow_add-total : goal.overflow_add-total
overflow_add-total c =
    let n = c.loop-state.state in
    let here = edges_so_far c.args.graph.now n (omega (arith, c.loop-state-test.true, c.states-state-end.ensures.count)) in
    let at : map (edge_data (λ name. name)) c.row.result.now ≡ get_or c.args.graph.now n [] = c.row.ensures.edges ∙ ap (λ k. get_or c.args.graph.now k []) c.at.ensures.again in
    omega (arith, here.1, c.requires.few, ap (λ es. length es) at, length-map c.row.result.now (edge_data (λ name. name)), c.loop-state.invariant.small, c.target_weight-total.ensures.small)

pub loop-state-preserved : goal.loop-state-preserved
loop-state-preserved c =
    let n = c.loop-state.state in
    let here = edges_so_far c.args.graph.now n (omega (arith, c.loop-state-test.true, c.states-state-end.ensures.count)) in
    let at : map (edge_data (λ name. name)) c.row.result.now ≡ get_or c.args.graph.now n [] = c.row.ensures.edges ∙ ap (λ k. get_or c.args.graph.now k []) c.at.ensures.again in
    record {
      is = spread_more c.args.graph.now c.args.weights.now n c.loop-state.total c.target_weight-total.result (map (edge_data (λ name. name)) c.row.result.now) at
          c.loop-state.invariant.is c.target_weight-total.ensures.sum;
      small = omega (arith, here.0, ap (λ es. length es) at, length-map c.row.result.now (edge_data (λ name. name)), c.loop-state.invariant.small, c.target_weight-total.ensures.small);
    }

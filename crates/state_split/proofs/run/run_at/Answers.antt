use Rattle.std.proofs.Common.{◌≡◌, ◌-◌, List, take, drop, ap, sym, ◌∙◌, arith}
use Rattle.std.proofs.lemmas.List.{take-map, drop-map}
use Rattle.label_graphs.specs.Graph.{EdgeData}
use Rattle.label_graphs.specs.Views.{edge_data}
use Rattle.split_spec.specs.Run.{weight_of}
use Rattle.state_split.specs.Views.{edges_data}
use Rattle.state_split.proofs.RunMade.{run_made}
use Rattle.state_split.proofs.run.run_at.Goals as goal

pub returns : goal.returns
returns c = λ row first.
    let x = c.args.weights.now in
    let ordered = c.args.ordered.now in
    let from = c.args.place.from in
    let to = c.args.place.to in
    let copied = ap edges_data c.in_ok-copy_edges.ensures in
    let part : take (to - from) (drop from (edges_data ordered)) ≡ edges_data (take (to - from) (drop from ordered)) =
    ap (λ (es : List EdgeData). take (to - from) es) (drop-map (edge_data (λ name. name)) from ordered) ∙ take-map (edge_data (λ name. name)) (to - from) (drop from ordered) in
    run_made c.args.n x row (edges_data ordered) (edges_data c.in_ok-copy_edges.field-0.items) from to c.target_weight.result (omega arith) c.requires.place first
    (copied ∙ sym part) (c.target_weight.ensures.sum ∙ ap (weight_of x) (sym copied))

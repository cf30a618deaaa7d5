use Rattle.label_graphs.specs.Views.{rows_data}
use Rattle.sink_part.specs.inside.Links.{AreLinkRows}
use Rattle.sink_part.proofs.linking.links.Given as goal

abbrev pub invariant-loop-state : goal.invariant-loop-state
invariant-loop-state l = AreLinkRows l.graph l.weights (rows_data (λ name. name) l.rows.items) l.state

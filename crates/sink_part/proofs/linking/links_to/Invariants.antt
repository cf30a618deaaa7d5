use Rattle.std.proofs.Common.{◌≡◌, map}
use Rattle.label_graphs.specs.Views.{edge_data}
use Rattle.label_graphs.specs.inside.Numbers.{is_marked, passing}
use Rattle.sink_part.specs.inside.Links.{link_to}
use Rattle.sink_part.proofs.linking.links_to.Given as goal

abbrev pub invariant-loop-to : goal.invariant-loop-to
invariant-loop-to l = map (edge_data (λ name. name)) l.row.items ≡ map link_to (passing (is_marked l.marks) l.to)

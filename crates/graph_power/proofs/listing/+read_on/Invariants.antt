use Rattle.std.proofs.Common.{◌≡◌, ◌+◌, ◌*◌, ◌-◌, ◌++◌, map, take}
use Rattle.std.specs.List.{flat_map}
use Rattle.label_graphs.specs.Views.{edge_data}
use Rattle.graph_power.specs.inside.Words.{words_from}
use Rattle.graph_power.proofs.listing.+read_on.Given as goal

abbrev pub decreases-read_on : goal.decreases-read_on
decreases-read_on l = l.left

abbrev pub invariant-loop-edge : goal.invariant-loop-edge
invariant-loop-edge l =
    map (edge_data (λ name. name)) l.row.items
    ≡ map (edge_data (λ name. name)) l.fn.row.items
    ++ flat_map (λ e. words_from l.cover (l.left - 1) (l.read.block.value * l.cover.alphabet + e.block) e.to)
    (map (edge_data (λ name. name)) (take l.edge-index l.edge-items))

use Rattle.std.proofs.Common.{◌≡◌, ◌++◌, drop}
use Rattle.std.specs.Prelude.{option_map}
use Rattle.toml.specs.View.{items_view}
use Rattle.constraint_file_spec.specs.Values.{edges_of}
use Rattle.constraint_files.proofs.values.edges_of.Given as goal

-- the edges so far and those that are left are all edges
abbrev pub invariant-loop-value : goal.invariant-loop-value
invariant-loop-value l =
    option_map (λ rest. l.edges.items ++ rest) (edges_of (items_view (drop l.value-index l.values))) ≡ edges_of (items_view l.values)

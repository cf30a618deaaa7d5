use Rattle.std.proofs.Common.{◌≡◌, map}
use Rattle.std.specs.List.{range_with_len}
use Rattle.label_graphs.specs.Views.{rows_data}
use Rattle.graph_power.specs.inside.Words.{words_from}
use Rattle.graph_power.proofs.listing.listed_rows.Given as goal

abbrev pub invariant-loop-state : goal.invariant-loop-state
invariant-loop-state l = rows_data (λ name. name) l.rows.items ≡ map (λ s. words_from l.cover l.q 0 s) (range_with_len 0 l.state)

use Rattle.label_graphs.specs.Views.{matrix_data}
use Rattle.graph_power.specs.inside.Words.{AreCountedTo}
use Rattle.graph_power.proofs.listing.word_counts.Given as goal

abbrev pub invariant-loop-shorter : goal.invariant-loop-shorter
invariant-loop-shorter l = AreCountedTo l.cover.graph l.shorter (matrix_data l.counts.items)

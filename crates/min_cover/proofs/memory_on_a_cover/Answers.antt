use Rattle.std.proofs.Common.{length}
use Rattle.label_graphs.specs.Graph.{HasEdge}
use Rattle.min_cover.proofs.CoverMemory.{memory_agrees, least_agrees}
use Rattle.min_cover.proofs.memory_on_a_cover.Goals as goal

pub returns-clause-lengths : goal.returns-clause-lengths
returns-clause-lengths c = λ d rows cover n. memory_agrees d (length rows) (HasEdge rows) cover n

pub returns-clause-memory : goal.returns-clause-memory
returns-clause-memory c = λ d rows cover n. least_agrees d (length rows) (HasEdge rows) cover n

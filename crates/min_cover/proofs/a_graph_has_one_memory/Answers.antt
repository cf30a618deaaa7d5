use Rattle.std.proofs.Common.{length}
use Rattle.label_graphs.specs.Graph.{HasEdge}
use Rattle.min_cover.proofs.MemoryOnce.{one_memory, one_read_back}
use Rattle.min_cover.proofs.a_graph_has_one_memory.Goals as goal

pub returns-clause-memory : goal.returns-clause-memory
returns-clause-memory c = λ rows. one_memory (length rows) (HasEdge rows)

pub returns-clause-two_states : goal.returns-clause-two_states
returns-clause-two_states c = λ rows. one_read_back (length rows) (HasEdge rows)

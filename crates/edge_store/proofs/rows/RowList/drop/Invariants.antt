use Rattle.std.proofs.Common.{length}
use Rattle.edge_store.proofs.rows.RowList.drop.Given as goal

abbrev pub decreases-loop-item : goal.decreases-loop-item
decreases-loop-item g l = length l.self

use Rattle.std.proofs.Common.{length}
use Rattle.constraint_spec.specs.Constraint.{IsWordOf}
use Rattle.label_graphs.specs.Graph.{HasEdge}
use Rattle.label_graphs.proofs.Unique.{one-cover}
use Rattle.min_cover.proofs.a_constraint_has_one_cover.Goals as goal

pub returns : goal.returns
returns c = λ d rows others. one-cover (IsWordOf d) (length rows) (length others) (HasEdge rows) (HasEdge others)

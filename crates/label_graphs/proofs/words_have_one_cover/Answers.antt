use Rattle.std.proofs.Common.{◌≡◌, true, length}
use Rattle.label_graphs.specs.Graph.{HasEdge}
use Rattle.label_graphs.proofs.Unique.{one-cover}
use Rattle.label_graphs.proofs.words_have_one_cover.Goals as goal

pub returns : goal.returns
returns c = λ is_word rows others.
    one-cover (λ word. is_word word ≡ true) (length rows) (length others) (HasEdge rows) (HasEdge others)

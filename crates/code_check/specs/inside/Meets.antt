-- Words that write the same block, and lead into a set of pairs of states.
use Rattle.std.specs.Prelude.{◌≡◌, ◌≢◌, ℕ, ◌+◌, ◌*◌, List}
use Rattle.least_walks.specs.declared.pair_graph.Arcs.{Arcs}
use Rattle.least_walks.specs.declared.pair_graph.Arcs.TheVariants.{All, Unlike}
use Rattle.least_walks.specs.NodeSet.{IsIn}
use Rattle.code_check.specs.declared.by_block.BlockWord.{BlockWord}

-- the two words are ones that are meant
abbrev pub AreMeant : Arcs → ℕ → ℕ → Type 0
AreMeant All word other = Unit {0}
AreMeant Unlike word other = word ≢ other

pub record Meets (arcs : Arcs) (states : ℕ) (pairs : List ℕ) (item other : BlockWord) : Type 0 where
  pub block : item.block.value ≡ other.block.value
  pub meant : AreMeant arcs item.word other.word
  pub leads : IsIn pairs (item.to * states + other.to)

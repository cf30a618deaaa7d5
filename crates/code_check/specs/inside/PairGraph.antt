-- The graph of the pairs of states of a code, with the pairs of steps that write the same block.
use Rattle.std.specs.Prelude.{◌≡◌, ℕ, ◌+◌, ◌*◌, ◌/◌, ◌%◌, ◌^◌, ◌<◌, ◌≤◌, List, [], ◌∷◌, length, map, get_or}
use Rattle.code_spec.specs.declared.Walk.{Walk}
use Rattle.code_spec.specs.Code.{CodeData}
use Rattle.code_spec.specs.Output.{row_at}
use Rattle.least_walks.specs.declared.Arc.{Arc}
use Rattle.least_walks.specs.Graph.{Graph, AreArcsBelow}
use Rattle.code_check.specs.declared.by_block.BlockWord.{BlockWord}
use Rattle.code_check.specs.inside.ByBlock.{no_word}

-- A pair of states is a node: the first state times their number, and the second state. A pair of data words is a
-- label: the first word times their number, and the second word.
pub record IsPairStep (c : CodeData) (node label next : ℕ) : Type 0 where
  pub inside : node < length c.rows * length c.rows
  pub below : label < 2 ^ c.p * 2 ^ c.p
  pub blocks :
      (row_at c.rows (node / length c.rows) (label / 2 ^ c.p)).block ≡ (row_at c.rows (node % length c.rows) (label % 2 ^ c.p)).block
  pub to :
      next ≡ (row_at c.rows (node / length c.rows) (label / 2 ^ c.p)).to * length c.rows
      + (row_at c.rows (node % length c.rows) (label % 2 ^ c.p)).to

abbrev pub pair_graph : CodeData → Graph
pair_graph c = record { nodes = length c.rows * length c.rows; arc = IsPairStep c }

-- the first words and the second words of labels
abbrev pub first_words : CodeData → List ℕ → List ℕ
first_words c labels = map (λ label. label / 2 ^ c.p) labels

abbrev pub second_words : CodeData → List ℕ → List ℕ
second_words c labels = map (λ label. label % 2 ^ c.p) labels

-- the labels of two lists of words
abbrev pub labels_of : CodeData → List ℕ → List ℕ → List ℕ
labels_of c [] ys = []
labels_of c (x ∷ xs) [] = []
labels_of c (x ∷ xs) (y ∷ ys) = (x * 2 ^ c.p + y) ∷ labels_of c xs ys

-- the two walks of a walk's labels
abbrev pub first_walk : CodeData → ℕ → List ℕ → Walk
first_walk c node labels = record { state = node / length c.rows; words = first_words c labels }

abbrev pub second_walk : CodeData → ℕ → List ℕ → Walk
second_walk c node labels = record { state = node % length c.rows; words = second_words c labels }

-- Of the pair of states s and t the arcs of the first words before this one, and of those that pair this word with
-- words of t's list before this place: they have the labels below some bound.
pub record IsPaired (c : CodeData) (s t word : ℕ) (list : List BlockWord) (at : ℕ) (arcs : List Arc) : Type 0 where
  pub bound : ℕ
  pub least : word * 2 ^ c.p ≤ bound
  pub most : bound ≤ (word + 1) * 2 ^ c.p
  pub are : AreArcsBelow (pair_graph c) (s * length c.rows + t) bound arcs
  pub front : (k : ℕ) → k < at → (get_or list k no_word).block ≡ (row_at c.rows s word).block
      → word * 2 ^ c.p + (get_or list k no_word).word < bound
  pub back : (k : ℕ) → at ≤ k → k < length list → (get_or list k no_word).block ≡ (row_at c.rows s word).block
      → bound ≤ word * 2 ^ c.p + (get_or list k no_word).word

-- Sets of states, as marks: which states are marked.
use Rattle.std.specs.Prelude.{◌≡◌, ℕ, ◌<◌, ◌^◌, ◌⊎◌, ◌↔◌, Bool, false, IsTrue, Option, Some, None, List, slice_index_or}
use Rattle.symbol_base.specs.declared.Block.{Block}
use Rattle.code_spec.specs.Code.{CodeData}
use Rattle.code_spec.specs.Output.{row_at}
use Rattle.code_spec.specs.Code.{IsState}
use Rattle.code_spec.specs.Walks.{IsArc, IsReached, IsReadable}

-- the state is marked
abbrev pub IsMarked : List Bool → ℕ → Type 0
IsMarked set state = IsTrue (slice_index_or set state false)

-- all states of the code are marked, and nothing else
pub record HasStates (count : ℕ) (set : List Bool) : Type 0 where
  pub marks : (state : ℕ) → IsMarked set state ↔ (state < count)

-- an arc by one of the first words
pub record IsArcBelow (c : CodeData) (state : ℕ) (block : Block) (next count : ℕ) : Type 0 where
  pub word : ℕ
  pub below : word < count
  pub writes : (row_at c.rows state word).block ≡ block
  pub leads : (row_at c.rows state word).to ≡ next

-- the targets of the state's first arcs with the block are marked too
pub record HasTargets (c : CodeData) (state : ℕ) (block : Block) (count : ℕ) (old set : List Bool) : Type 0 where
  pub marks : (next : ℕ) → IsMarked set next ↔ (IsMarked old next ⊎ IsArcBelow c state block next count)

-- an arc from one of the first states that are marked
pub record IsArcFrom (c : CodeData) (from : List Bool) (block : Block) (next count : ℕ) : Type 0 where
  pub state : ℕ
  pub below : state < count
  pub marked : IsMarked from state
  pub arc : IsArc c state block next

-- the targets of arcs with the block from the first states that are marked
pub record IsForward (c : CodeData) (from : List Bool) (block : Block) (count : ℕ) (set : List Bool) : Type 0 where
  pub marks : (next : ℕ) → IsMarked set next ↔ IsArcFrom c from block next count

-- an arc from the state to a marked one
pub record IsArcInto (c : CodeData) (state : ℕ) (block : Block) (into : List Bool) : Type 0 where
  pub next : ℕ
  pub marked : IsMarked into next
  pub arc : IsArc c state block next

-- the word's row writes the block and leads to a marked state
pub record IsWordInto (c : CodeData) (state : ℕ) (block : Block) (into : List Bool) (word : ℕ) : Type 0 where
  pub below : word < 2 ^ c.p
  pub writes : (row_at c.rows state word).block ≡ block
  pub marked : IsMarked into (row_at c.rows state word).to

-- such a word, or none where there is none
abbrev pub IsAnyWordInto : CodeData → ℕ → Block → List Bool → Option ℕ → Type 0
IsAnyWordInto c state block into (Some word) = IsWordInto c state block into word
IsAnyWordInto c state block into None = (word : ℕ) → IsWordInto c state block into word → ⊥

-- the first states from which an arc with the block leads to a marked one
pub record IsBackward (c : CodeData) (into : List Bool) (block : Block) (count : ℕ) (set : List Bool) : Type 0 where
  pub marks : (state : ℕ) → IsMarked set state ↔ ((state < count) × IsArcInto c state block into)

-- the states to which the blocks lead
pub record AreReached (c : CodeData) (blocks : List Block) (set : List Bool) : Type 0 where
  pub marks : (state : ℕ) → IsMarked set state ↔ IsReached c blocks state

-- the states from which the blocks can be read
pub record AreReadable (c : CodeData) (blocks : List Block) (set : List Bool) : Type 0 where
  pub marks : (state : ℕ) → IsMarked set state ↔ (IsState c state × IsReadable c blocks state)

-- The word between two sets of states.
use Rattle.std.specs.Prelude.{◌≡◌, ℕ, ◌<◌, ◌⊎◌, Bool, List, length}
use Rattle.symbol_base.specs.declared.Block.{Block}
use Rattle.code_spec.specs.Code.{CodeData}
use Rattle.block_codec.specs.inside.Sets.{IsMarked, IsWordInto}

-- one of the first states is marked in front, and the word writes the block from it and goes to a state that is marked behind
pub record IsWordBetween (c : CodeData) (front : List Bool) (block : Block) (back : List Bool) (count word : ℕ) : Type 0 where
  pub state : ℕ
  pub below : state < count
  pub marked : IsMarked front state
  pub into : IsWordInto c state block back word

-- such a word, and 0 where there is none
abbrev pub IsBetweenSets : CodeData → List Bool → Block → List Bool → ℕ → Type 0
IsBetweenSets c front block back word =
    IsWordBetween c front block back (length c.rows) word ⊎ ((word ≡ 0) × ((other : ℕ) → IsWordBetween c front block back (length c.rows) other → ⊥))

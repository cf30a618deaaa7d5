-- What a code's sliding-block decoder answers.
use Rattle.std.specs.Prelude.{◌≡◌, ℕ, ◌+◌, ◌-◌, ◌<◌, ◌⊎◌, List, length, take, drop, slice_index_or}
use Rattle.symbol_base.specs.declared.Block.{Block}
use Rattle.code_spec.specs.Output.{output}
use Rattle.code_spec.specs.Code.{CodeData, IsState, IsDataWords}

-- how many blocks a window has
abbrev pub window_length : CodeData → ℕ
window_length c = c.past + 1 + c.ahead

-- Some state and data words write the window, and the word is the one at the place that is decoded.
pub record IsFound (c : CodeData) (window : List Block) (word : ℕ) : Type 0 where
  pub state : ℕ
  pub words : List ℕ
  pub inside : IsState c state
  pub below : IsDataWords c words
  pub writes : output c state words ≡ window
  pub here : slice_index_or words c.past 0 ≡ word

-- the decoder's answer: such a word, and 0 where there is none
abbrev pub IsDecoded : CodeData → List Block → ℕ → Type 0
IsDecoded c window word = IsFound c window word ⊎ ((word ≡ 0) × ((other : ℕ) → IsFound c window other → ⊥))

-- the window that begins at a place
abbrev pub window_at : CodeData → List Block → ℕ → List Block
window_at c blocks at = take (window_length c) (drop at blocks)

-- a word for each window of the blocks, one after the other
pub record AreDecoded (c : CodeData) (blocks : List Block) (words : List ℕ) : Type 0 where
  pub count : length words ≡ length blocks - (c.past + c.ahead)
  pub each : (at : ℕ) → at < length words → IsDecoded c (window_at c blocks at) (slice_index_or words at 0)

-- the words but the first past and the last ahead
abbrev pub inner_words : CodeData → List ℕ → List ℕ
inner_words c words = take (length words - (c.past + c.ahead)) (drop c.past words)

-- two block lists that differ in one block at most
pub record DifferAt (at : ℕ) (xs ys : List Block) : Type 0 where
  pub count : length xs ≡ length ys
  pub same : (place : ℕ) (other : Block) → (place ≡ at → ⊥) → slice_index_or xs place other ≡ slice_index_or ys place other

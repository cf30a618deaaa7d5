-- What shows that a code is no checked code, and which of all that show it is the least.
use Rattle.std.specs.Prelude.{◌≡◌, ◌≢◌, ℕ, ◌+◌, ◌⊎◌, List, [], ◌∷◌, length, slice_index_or}
use Rattle.symbol_base.specs.Word.{IsSmallerAtFirst, IsBefore}
use Rattle.code_spec.specs.declared.Walk.{Walk}
use Rattle.code_spec.specs.Code.{CodeData, IsState, IsDataWords}
use Rattle.code_spec.specs.Output.{output}
use Rattle.code_spec.specs.Checked.{WritesWord}

-- data words that write no word of the constraint, the first of all in the order of words
pub record IsLeastOutside (c : CodeData) (words : List ℕ) : Type 0 where
  pub below : IsDataWords c words
  pub outside : WritesWord c words → ⊥
  pub least : (other : List ℕ) → IsDataWords c other → (WritesWord c other → ⊥) → (words ≡ other) ⊎ IsBefore words other

-- the walk begins in a state of the code, and takes so many of its data words
pub record IsWalkOver (c : CodeData) (count : ℕ) (walk : Walk) : Type 0 where
  pub state : IsState c walk.state
  pub words : IsDataWords c walk.words
  pub counted : length walk.words ≡ count

-- two walks that write the same blocks, with unlike words where the window is to tell the word
pub record IsAmbiguous (c : CodeData) (past ahead : ℕ) (first second : Walk) : Type 0 where
  pub one : IsWalkOver c (past + 1 + ahead) first
  pub other : IsWalkOver c (past + 1 + ahead) second
  pub blocks : output c first.state first.words ≡ output c second.state second.words
  pub unlike : slice_index_or first.words past 0 ≢ slice_index_or second.words past 0

-- the words of two lists of one length pair by pair, of each pair the first list's word before the second's
abbrev pub in_pairs : List ℕ → List ℕ → List ℕ
in_pairs [] ys = []
in_pairs (x ∷ xs) [] = []
in_pairs (x ∷ xs) (y ∷ ys) = x ∷ y ∷ in_pairs xs ys

-- Pairs of walks of one length in their order: by the first walk's state, by the second's, and by their words pair by pair.
abbrev pub IsPairBefore : Walk → Walk → Walk → Walk → Type 0
IsPairBefore first second first' second' =
    IsSmallerAtFirst (first.state ∷ second.state ∷ in_pairs first.words second.words)
    (first'.state ∷ second'.state ∷ in_pairs first'.words second'.words)

-- of all ambiguous pairs the first
pub record IsLeastAmbiguous (c : CodeData) (past ahead : ℕ) (first second : Walk) : Type 0 where
  pub ambiguous : IsAmbiguous c past ahead first second
  pub least : (first' second' : Walk) → IsAmbiguous c past ahead first' second'
      → ((first ≡ first') × (second ≡ second')) ⊎ IsPairBefore first second first' second'

-- The cover of a set of words: the deterministic graph with the fewest states that reads them.
use Rattle.std.specs.Prelude.{◌≡◌, ℕ, ◌<◌, ◌≤◌, ◌⊎◌, ◌↔◌, List, length, All}
use Rattle.symbol_base.specs.Word.{IsBefore}
use Rattle.symbol_base.specs.Walk.{IsWalk}
use Rattle.label_graphs.specs.Graph.{EdgeData, HasEdge}

-- the word labels some walk from the state
abbrev pub IsReadFrom : (ℕ → ℕ → ℕ → Type 0) → ℕ → List ℕ → Type 0
IsReadFrom edge from word = (to : ℕ) × IsWalk edge from word to

-- the word can be read from exactly one of the two states
abbrev pub TellsApart : (ℕ → ℕ → ℕ → Type 0) → ℕ → ℕ → List ℕ → Type 0
TellsApart edge u v word =
    (IsReadFrom edge u word × (IsReadFrom edge v word → ⊥)) ⊎ ((IsReadFrom edge u word → ⊥) × IsReadFrom edge v word)

-- The graph with the states 0 to count - 1 is the cover of the words.
pub record IsCover (IsWord : List ℕ → Type 0) (count : ℕ) (edge : ℕ → ℕ → ℕ → Type 0) : Type 0 where
  -- there is a state 0
  pub some : 0 < count
  -- edges join states of the graph
  pub inside : (u symbol v : ℕ) → edge u symbol v → (u < count) × (v < count)
  -- a state has at most one edge per symbol
  pub single : (u symbol v w : ℕ) → edge u symbol v → edge u symbol w → v ≡ w
  -- the words are those that can be read from state 0
  pub words : (w : List ℕ) → IsWord w ↔ IsReadFrom edge 0 w
  -- each state is the end of a walk from state 0
  pub reached : (v : ℕ) → v < count → (w : List ℕ) × IsWalk edge 0 w v
  -- any two states are told apart by a word
  pub apart : (u v : ℕ) → u < v → v < count → (w : List ℕ) × TellsApart edge u v w
  -- each word that leads to a state is behind one that leads to the state with a lower number
  pub order : (u v : ℕ) → u < v → v < count → (y : List ℕ) → IsWalk edge 0 y v
      → (x : List ℕ) × IsWalk edge 0 x u × IsBefore x y

pub record CoverData : Type 0 where
  pub graph : List (List EdgeData)
  pub alphabet : ℕ

-- the graph of these rows is the cover of the words
abbrev pub IsCoverOf : (List ℕ → Type 0) → List (List EdgeData) → Type 0
IsCoverOf IsWord rows = IsCover IsWord (length rows) (HasEdge rows)

-- What every cover as a value keeps: its blocks are single symbols of the alphabet, its state 0 is the root.
pub record KeepsSymbols (cover : CoverData) : Type 0 where
  pub alphabet : (2 ≤ cover.alphabet) × (cover.alphabet ≤ 4)
  pub states : (1 ≤ length cover.graph) × (length cover.graph ≤ 256)
  pub symbols : All (All (λ e. e.block < cover.alphabet)) cover.graph
  pub single : (u symbol v w : ℕ) → HasEdge cover.graph u symbol v → HasEdge cover.graph u symbol w → v ≡ w

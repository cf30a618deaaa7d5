-- Machines that read words: a state and a symbol give the next state, or nothing where the symbol can't follow.
use Rattle.std.specs.Prelude.{◌≡◌, ◌≢◌, ℕ, ◌<◌, ◌⊎◌, List, [], ◌∷◌, ◌++◌, Option, Some, is_some, option_map, option_and_then}
use Rattle.symbol_base.specs.Word.{IsBefore}

-- the state after the word, or nothing where the word can't be read
abbrev pub reads : {S : Type 0} → (S → ℕ → Option S) → S → List ℕ → Option S
reads step state [] = Some state
reads step state (symbol ∷ word) = option_and_then (λ next. reads step next word) (step state symbol)

-- the same words can be read from the two states
abbrev pub IsAlike : {S : Type 0} → (S → ℕ → Option S) → S → S → Type 0
IsAlike step q r = (w : List ℕ) → is_some (reads step q w) ≡ is_some (reads step r w)

-- some word can be read from exactly one of the two
abbrev pub IsApart : {S : Type 0} → (S → ℕ → Option S) → S → S → Type 0
IsApart step q r = (w : List ℕ) × (is_some (reads step q w) ≢ is_some (reads step r w))

-- the two words are the same, or the first comes first
abbrev pub IsUpTo : List ℕ → List ℕ → Type 0
IsUpTo u v = (u ≡ v) ⊎ IsBefore u v

-- Numbers below `count` stand for states of the machine, each found by its word, in the order of the words; the edges
-- lead where the machine leads, up to states from which the same words can be read.
pub record IsExplored {S : Type 0} (step : S → ℕ → Option S) (start : S) (count : ℕ) (key : ℕ → S) (word : ℕ → List ℕ)
    (edge : ℕ → ℕ → ℕ → Type 0) : Type 0 where
  pub root : (0 < count) × (key 0 ≡ start) × (word 0 ≡ [])
  -- an edge follows the machine
  pub follows : (i symbol m : ℕ) → edge i symbol m
      → (i < count) × (m < count) × ((t : S) × (step (key i) symbol ≡ Some t) × IsAlike step t (key m))
  -- each step of the machine has an edge
  pub full : (i symbol : ℕ) (t : S) → i < count → step (key i) symbol ≡ Some t → (m : ℕ) × edge i symbol m
  -- a number's word leads to its state
  pub found : (m : ℕ) → m < count → reads step start (word m) ≡ Some (key m)
  -- no edge shows a lesser word for its target
  pub least : (i symbol m : ℕ) → edge i symbol m → IsUpTo (word m) (word i ++ symbol ∷ [])
  pub ascending : (i m : ℕ) → i < m → m < count → IsBefore (word i) (word m)
  pub apart : (i m : ℕ) → i < m → m < count → IsApart step (key i) (key m)

-- Classes of the first `count` states: states of one class can't be told apart by one more symbol.
abbrev pub IsStable : (ℕ → ℕ → Option ℕ) → ℕ → (ℕ → ℕ) → Type 0
IsStable step count class =
    (q r symbol : ℕ) → q < count → r < count → class q ≡ class r
    → option_map class (step q symbol) ≡ option_map class (step r symbol)

-- states of two classes are told apart by a word
abbrev pub IsTold : (ℕ → ℕ → Option ℕ) → ℕ → (ℕ → ℕ) → Type 0
IsTold step count class = (q r : ℕ) → q < count → r < count → class q ≢ class r → IsApart step q r

-- The finer classes are those of one more round: two states share one where they shared a class, and with each symbol
-- come to one class, or both can't read it.
pub record IsRound (step : ℕ → ℕ → Option ℕ) (count : ℕ) (class finer : ℕ → ℕ) : Type 0 where
  pub same : (q r : ℕ) → q < count → r < count → finer q ≡ finer r
      → (class q ≡ class r) × ((symbol : ℕ) → option_map class (step q symbol) ≡ option_map class (step r symbol))
  pub other : (q r : ℕ) → q < count → r < count → finer q ≢ finer r
      → (class q ≢ class r) ⊎ ((symbol : ℕ) × (option_map class (step q symbol) ≢ option_map class (step r symbol)))

-- steps from the first `count` states lead to them
abbrev pub IsClosed : (ℕ → ℕ → Option ℕ) → ℕ → Type 0
IsClosed step count = (q symbol t : ℕ) → q < count → step q symbol ≡ Some t → t < count

-- What a breadth-first search of a machine finds, the numbering of classes by first members, and the graph of the classes.
use Rattle.std.specs.Prelude.{◌≡◌, ℕ, suc, ◌<◌, ◌≤◌, ◌⊎◌, List, [], ◌∷◌, ◌++◌, Option, Some, None, option_map, map}
use Rattle.std.specs.List.{range_with_len}
use Rattle.symbol_base.specs.Word.{IsBefore}
use Rattle.min_cover.specs.inside.Machine.{reads, IsUpTo}

-- The numbers below `count` name states of the machine, and `next` is the machine on numbers.
pub record IsNumbered {S : Type 0} (step : S → ℕ → Option S) (count : ℕ) (key : ℕ → S) (next : ℕ → ℕ → Option ℕ) : Type 0 where
  pub moves : (i symbol : ℕ) → i < count → step (key i) symbol ≡ option_map key (next i symbol)
  pub closed : (i symbol t : ℕ) → i < count → next i symbol ≡ Some t → t < count

-- The numbers are those of a breadth-first search from 0: each has the word by which it was found, in their order.
pub record IsSearched (next : ℕ → ℕ → Option ℕ) (count : ℕ) (word : ℕ → List ℕ) : Type 0 where
  pub closed : (i symbol t : ℕ) → i < count → next i symbol ≡ Some t → t < count
  pub some : 0 < count
  pub root : word 0 ≡ []
  pub found : (m : ℕ) → m < count → reads next 0 (word m) ≡ Some m
  pub least : (i symbol t : ℕ) → i < count → next i symbol ≡ Some t → IsUpTo (word t) (word i ++ symbol ∷ [])
  pub ascending : (i m : ℕ) → i < m → m < count → IsBefore (word i) (word m)

-- Each word found so far comes before that of the state in hand with the symbol in hand.
abbrev pub IsAhead : (ℕ → List ℕ) → ℕ → ℕ → ℕ → Type 0
IsAhead word count i symbol = (m : ℕ) → m < count → IsBefore (word m) (word i ++ symbol ∷ [])

-- Classes are numbered by their first members, which stand in `first`.
pub record IsByFirst (count : ℕ) (class : ℕ → ℕ) (classes : ℕ) (first : ℕ → ℕ) : Type 0 where
  pub inside : (q : ℕ) → q < count → (class q < classes) × (first (class q) ≤ q)
  pub member : (m : ℕ) → m < classes → (first m < count) × (class (first m) ≡ m)
  pub ascending : (i m : ℕ) → i < m → m < classes → first i < first m

-- the edges of the graph of the classes: those of their first members
abbrev pub class_edge : (ℕ → ℕ → Option ℕ) → (ℕ → ℕ) → ℕ → (ℕ → ℕ) → ℕ → ℕ → ℕ → Type 0
class_edge next class classes first i symbol m = (i < classes) × (option_map class (next (first i) symbol) ≡ Some m)

-- what a step shows of its target's class
abbrev pub target_sign : (ℕ → ℕ) → Option ℕ → ℕ
target_sign class None = 0
target_sign class (Some t) = suc (class t)

-- a state's class, and what its step with each symbol shows
abbrev pub sign_of : (ℕ → ℕ → Option ℕ) → ℕ → (ℕ → ℕ) → ℕ → List ℕ
sign_of step alphabet class q = class q ∷ map (λ symbol. target_sign class (step q symbol)) (range_with_len 0 alphabet)

-- The finer classes are those of equal signs.
pub record IsBySigns (step : ℕ → ℕ → Option ℕ) (alphabet count : ℕ) (class finer : ℕ → ℕ) : Type 0 where
  pub over : (q symbol : ℕ) → q < count → alphabet ≤ symbol → step q symbol ≡ None
  pub same : (q r : ℕ) → q < count → r < count → finer q ≡ finer r
      → sign_of step alphabet class q ≡ sign_of step alphabet class r
  pub told : (q r : ℕ) → q < count → r < count → sign_of step alphabet class q ≡ sign_of step alphabet class r
      → finer q ≡ finer r

-- the places before the one in hand: those of lower states, and of this state's lower symbols
abbrev pub IsDone : ℕ → ℕ → ℕ → ℕ → Type 0
IsDone i symbol j s = (j < i) ⊎ ((j ≡ i) × (s < symbol))

-- A breadth-first search that is at the state i and the symbol: what it has found, and what it knows of the places done.
pub record IsSearching {S : Type 0} (step : S → ℕ → Option S) (start : S) (next : ℕ → ℕ → Option ℕ) (count : ℕ)
    (key : ℕ → S) (word : ℕ → List ℕ) (i symbol : ℕ) : Type 0 where
  pub some : 0 < count
  pub here : i ≤ count
  pub first : key 0 ≡ start
  pub root : word 0 ≡ []
  pub found : (m : ℕ) → m < count → reads step start (word m) ≡ Some (key m)
  pub ascending : (a m : ℕ) → a < m → m < count → IsBefore (word a) (word m)
  pub ahead : i < count → IsAhead word count i symbol
  pub moves : (j s : ℕ) → IsDone i symbol j s → step (key j) s ≡ option_map key (next j s)
  pub least : (j s t : ℕ) → IsDone i symbol j s → next j s ≡ Some t → (t < count) × IsUpTo (word t) (word j ++ s ∷ [])

-- The memory of a graph: how many last symbols of a walk tell the state in which it ends.
use Rattle.std.specs.Prelude.{◌≡◌, ℕ, ◌<◌, ◌≤◌, ◌⊎◌, List, length}
use Rattle.symbol_base.specs.Walk.{IsWalk}
use Rattle.symbol_base.specs.Word.{IsBefore}

-- all walks with one label word of this length, in a graph with the states 0 to count - 1, end in one state
abbrev pub EndTogether : ℕ → (ℕ → ℕ → ℕ → Type 0) → ℕ → Type 0
EndTogether count edge n =
    (word : List ℕ) (u x v y : ℕ) → length word ≡ n → u < count → v < count
    → IsWalk edge u word x → IsWalk edge v word y → x ≡ y

-- the memory is the least such length
pub record IsMemory (count : ℕ) (edge : ℕ → ℕ → ℕ → Type 0) (n : ℕ) : Type 0 where
  pub together : EndTogether count edge n
  pub least : (m : ℕ) → m < n → EndTogether count edge m → ⊥

-- the two states read the word, which has a symbol at least, back to themselves
pub record ReadBack (edge : ℕ → ℕ → ℕ → Type 0) (u v : ℕ) (word : List ℕ) : Type 0 where
  pub some : 0 < length word
  pub first : IsWalk edge u word u
  pub second : IsWalk edge v word v

-- Of the pairs of different states that read one word back to themselves this is the least: by the first state, then by
-- the second. And of their words this is the least: the shorter first, then the smaller at the first difference.
pub record IsLeastReadBack (count : ℕ) (edge : ℕ → ℕ → ℕ → Type 0) (u v : ℕ) (word : List ℕ) : Type 0 where
  pub order : u < v
  pub inside : v < count
  pub back : ReadBack edge u v word
  pub least_word : (other : List ℕ) → ReadBack edge u v other → (word ≡ other) ⊎ IsBefore word other
  pub least_pair : (x y : ℕ) (other : List ℕ) → x < y → y < count → ReadBack edge x y other
      → (u < x) ⊎ ((u ≡ x) × (v ≤ y))

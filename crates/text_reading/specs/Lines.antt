-- Texts of lines, where what a line may be depends on those before it.
use Rattle.std.specs.Prelude.{◌≡◌, ◌≢◌, ℕ, ◌+◌, List, [], ◌∷◌, ◌++◌, length}
use Rattle.std.specs.List.{flat_map}

-- lines, each with its line feed
abbrev pub text_of : List (List ℕ) → List ℕ
text_of lines = flat_map (λ line. line ++ 10 ∷ []) lines

-- The lines keep their rules one after the other: from where the text stands they lead to where it goes on.
pub data Leads {E : Type 0} (Keeps : E → List ℕ → E → Type 0) : E → List (List ℕ) → E → Type 0 where
  none : (here : E) → Leads Keeps here [] here
  more : (here via there : E) (line : List ℕ) (lines : List (List ℕ)) → Keeps here line via
      → Leads Keeps via lines there → Leads Keeps here (line ∷ lines) there

-- No line that keeps its rule stands in front, and it isn't the end of a whole text either.
pub record Breaks {E : Type 0} (Keeps : E → List ℕ → E → Type 0) (IsEnd : E → Type 0) (here : E) (bytes : List ℕ) : Type 0 where
  pub line : (line rest : List ℕ) (next : E) → bytes ≡ line ++ 10 ∷ rest → Keeps here line next → ⊥
  pub end : IsEnd here → bytes ≢ []

-- Line n is the first that breaks its rule: those before it, numbered from first on, keep theirs.
pub record IsFirstWrong {E : Type 0} (Keeps : E → List ℕ → E → Type 0) (IsEnd : E → Type 0) (start : E) (first : ℕ) (bytes : List ℕ) (n : ℕ) : Type 0 where
  pub lines : List (List ℕ)
  pub rest : List ℕ
  pub here : E
  pub front : bytes ≡ text_of lines ++ rest
  pub kept : Leads Keeps start lines here
  pub breaks : Breaks Keeps IsEnd here rest
  pub number : n ≡ first + length lines

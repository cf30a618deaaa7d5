-- Words: lists of symbols, and their order.
use Rattle.std.specs.Prelude.{◌≡◌, ℕ, ◌<◌, ◌==◌, ◌&&◌, ◌||◌, nat_lt, Bool, ◌⊎◌, List, [], ◌∷◌, length, All}
use Rattle.std.specs.Ordering.{nat_cmp, is_lt}
use Rattle.std.specs.Cmp.Lexicographic.{slice_cmp}

-- each symbol is one of the alphabet's, 0 to alphabet - 1
abbrev pub IsOver : ℕ → List ℕ → Type 0
IsOver alphabet word = All (λ symbol. symbol < alphabet) word

-- u is smaller than v at the first place where they differ
abbrev pub IsSmallerAtFirst : List ℕ → List ℕ → Type 0
IsSmallerAtFirst [] v = ⊥
IsSmallerAtFirst (s ∷ u) [] = ⊥
IsSmallerAtFirst (s ∷ u) (t ∷ v) = (s < t) ⊎ ((s ≡ t) × IsSmallerAtFirst u v)

-- the order of words: the shorter word first, and of two of one length the smaller at the first difference
abbrev pub IsBefore : List ℕ → List ℕ → Type 0
IsBefore u v = (length u < length v) ⊎ ((length u ≡ length v) × IsSmallerAtFirst u v)

-- the test of that order
abbrev pub comes_before : List ℕ → List ℕ → Bool
comes_before u v = nat_lt (length u) (length v) || ((length u == length v) && is_lt (slice_cmp nat_cmp u v))

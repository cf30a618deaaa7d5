-- The Reed-Solomon code with 2 t check symbols over the field of 256 elements, and the word of the
-- code that is near a list of symbols.
use Rattle.std.specs.Prelude.{◌≡◌, ℕ, ◌+◌, ◌*◌, ◌<◌, ◌≤◌, List, [], ◌∷◌, length, All, nat_eq, if◌then◌else◌}
use Rattle.gf256.specs.Field.{IsElement, plus, times, power, alpha}

-- the sum over the places s of symbol s times alpha^((m - 1 - s) i), where m is the number of symbols
abbrev pub weighted_sum : List ℕ → ℕ → ℕ
weighted_sum [] i = 0
weighted_sum (symbol ∷ rest) i = plus (times symbol (power alpha (length rest * i))) (weighted_sum rest i)

-- a word of the code: at most 255 symbols, whose weighted sums below 2 t are 0
pub record IsReedSolomonWord (t : ℕ) (word : List ℕ) : Type 0 where
  pub short : length word ≤ 255
  pub elements : All IsElement word
  pub sums : (i : ℕ) → i < 2 * t → weighted_sum word i ≡ 0

-- the number of places in which two lists of one length differ
abbrev pub differences : List ℕ → List ℕ → ℕ
differences [] ys = 0
differences (x ∷ xs) [] = 0
differences (x ∷ xs) (y ∷ ys) = (if nat_eq x y then 0 else 1) + differences xs ys

-- a word of the code as long as the given list, which differs from it in at most t places
pub record IsNear (t : ℕ) (received word : List ℕ) : Type 0 where
  pub code_word : IsReedSolomonWord t word
  pub same_length : length word ≡ length received
  pub close : differences received word ≤ t

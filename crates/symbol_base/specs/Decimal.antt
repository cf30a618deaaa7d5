-- Texts of decimal numbers.
use Rattle.std.specs.Prelude.{◌≡◌, ℕ, ◌≤◌, List, length, slice_index, All}

-- 1 to 18 digits, with no leading 0 but in the text 0 itself
pub record IsDecimal (text : List ℕ) : Type 0 where
  pub at_least_one : 1 ≤ length text
  pub at_most_eighteen : length text ≤ 18
  pub digits : All (λ byte. (48 ≤ byte) × (byte ≤ 57)) text
  pub no_leading_zero : slice_index text 0 ≡ 48 → length text ≡ 1

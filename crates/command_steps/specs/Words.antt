-- Numbers among the words of a command.
use Rattle.std.specs.Prelude.{ℕ, List, Option, Some, None, nat_le, ◌&&◌, if◌then◌else◌}
use Rattle.text_reading.specs.Reading.{◌>>=◌, number_in}

-- the number that a word spells, where it is from least to most
abbrev pub number_within : ℕ → ℕ → List ℕ → Option ℕ
number_within least most word = do
  n ← number_in word
  if nat_le least n && nat_le n most then Some n else None

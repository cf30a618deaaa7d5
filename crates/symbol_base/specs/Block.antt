-- A word as the number whose digits it is, in the alphabet's base.
use Rattle.std.specs.Prelude.{ℕ, zero, suc, ◌+◌, ◌*◌, ◌/◌, ◌%◌, ◌^◌, List, [], ◌∷◌, length}

-- the number whose digits the word is, the first symbol most significant
abbrev pub number_of : ℕ → List ℕ → ℕ
number_of alphabet [] = 0
number_of alphabet (symbol ∷ rest) = symbol * alphabet ^ length rest + number_of alphabet rest

-- the last q digits of a number, the first most significant
abbrev pub symbols_of : ℕ → ℕ → ℕ → List ℕ
symbols_of alphabet zero value = []
symbols_of alphabet (suc q) value = value / alphabet ^ q % alphabet ∷ symbols_of alphabet q value

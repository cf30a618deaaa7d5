-- Plain channel text: a file as one line of digits.
use Rattle.std.specs.Prelude.{ℕ, ◌+◌, ◌-◌, ◌*◌, ◌/◌, List, [], ◌∷◌, ◌++◌, length, map, replicate}
use Rattle.std.specs.List.{range_with_len}
use Rattle.symbol_base.specs.Bits.{bits, word_at}
use Rattle.code_spec.specs.Code.{CodeData}
use Rattle.code_spec.specs.Output.{output, flat}

-- how many data words of p bits hold so many bits: the last may hold fewer
abbrev pub word_count : ℕ → ℕ → ℕ
word_count p count = (count + (p - 1)) / p

-- the bits of a file, p at a time, with 0s after the end
abbrev pub file_words : ℕ → List ℕ → List ℕ
file_words p file = map (λ j. word_at (bits file) (p * j) p) (range_with_len 0 (word_count p (8 * length file)))

-- what is encoded: past zero words as lead-in, the file's words, and ahead zero words as lead-out
abbrev pub data_words : CodeData → List ℕ → List ℕ
data_words c file = (replicate c.past 0 ++ file_words c.p file) ++ replicate c.ahead 0

-- the symbols on the channel, from state 0 on
abbrev pub plain_symbols : CodeData → List ℕ → List ℕ
plain_symbols c file = flat c (output c 0 (data_words c file))

-- the text: one digit per symbol, and a line feed
abbrev pub plain_text : CodeData → List ℕ → List ℕ
plain_text c file = map (λ symbol. 48 + symbol) (plain_symbols c file) ++ 10 ∷ []

-- how long the text of a file of so many bytes is
abbrev pub plain_length : CodeData → ℕ → ℕ
plain_length c bytes = c.q * (c.past + word_count c.p (8 * bytes) + c.ahead) + 1

-- The bits of bytes, and the data words that are cut from them.
use Rattle.std.specs.Prelude.{ℕ, ◌+◌, List, map, slice_index}
use Rattle.std.specs.List.{flat_map, range_with_len}
use Rattle.symbol_base.specs.Block.{number_of, symbols_of}

-- the eight bits of a byte, 0 or 1 each, the most significant first
unfoldable pub byte_bits : ℕ → List ℕ
byte_bits byte = symbols_of 2 8 byte

-- the bits of bytes, one byte after the other
abbrev pub bits : List ℕ → List ℕ
bits bytes = flat_map byte_bits bytes

-- the p bits from place at as a number, with 0s past the end
unfoldable pub word_at : List ℕ → ℕ → ℕ → ℕ
word_at list at p = number_of 2 (map (λ place. slice_index list (at + place)) (range_with_len 0 p))

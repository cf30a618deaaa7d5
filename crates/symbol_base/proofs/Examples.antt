-- Blocks, bits and data words of small numbers and bytes.
use Rattle.std.proofs.Common.{◌≡◌, [], ◌∷◌, map, refl}
use Rattle.std.specs.Prelude.{replicate}
use Rattle.symbol_base.specs.Block.{number_of, symbols_of}
use Rattle.symbol_base.specs.Bits.{byte_bits, bits, word_at}

blocks_of_bits : map (number_of 2) ([] ∷ (0 ∷ 1 ∷ 0 ∷ []) ∷ (1 ∷ 1 ∷ 1 ∷ []) ∷ (0 ∷ 0 ∷ 1 ∷ 0 ∷ 1 ∷ []) ∷ []) ≡ 0 ∷ 2 ∷ 7 ∷ 5 ∷ []
blocks_of_bits = refl

blocks_over_three : map (number_of 3) ((2 ∷ 1 ∷ []) ∷ (1 ∷ 0 ∷ 2 ∷ 2 ∷ []) ∷ replicate 20 2 ∷ []) ≡ 7 ∷ 35 ∷ 3486784400 ∷ []
blocks_over_three = refl

blocks_over_four : map (number_of 4) ((3 ∷ 0 ∷ 1 ∷ []) ∷ replicate 20 3 ∷ []) ≡ 49 ∷ 1099511627775 ∷ []
blocks_over_four = refl

symbols : symbols_of 3 4 35 ≡ 1 ∷ 0 ∷ 2 ∷ 2 ∷ []
symbols = refl

bits_of_two_bytes : bits (27 ∷ 128 ∷ []) ≡ 0 ∷ 0 ∷ 0 ∷ 1 ∷ 1 ∷ 0 ∷ 1 ∷ 1 ∷ 1 ∷ 0 ∷ 0 ∷ 0 ∷ 0 ∷ 0 ∷ 0 ∷ 0 ∷ []
unfolding byte_bits
bits_of_two_bytes = refl

-- words of two bits, and of three with 0s behind the last bit
words_of_two : map (λ at. word_at (bits (27 ∷ [])) at 2) (0 ∷ 2 ∷ 4 ∷ 6 ∷ 8 ∷ []) ≡ 0 ∷ 1 ∷ 2 ∷ 3 ∷ 0 ∷ []
unfolding byte_bits word_at
words_of_two = refl

words_of_three : map (λ at. word_at (bits (255 ∷ 15 ∷ [])) at 3) (0 ∷ 3 ∷ 6 ∷ 9 ∷ 12 ∷ 15 ∷ 18 ∷ []) ≡ 7 ∷ 7 ∷ 6 ∷ 0 ∷ 7 ∷ 4 ∷ 0 ∷ []
unfolding byte_bits word_at
words_of_three = refl

words_of_eight : map (λ at. word_at (bits (171 ∷ 205 ∷ [])) at 8) (0 ∷ 4 ∷ 8 ∷ 16 ∷ []) ≡ 171 ∷ 188 ∷ 205 ∷ 0 ∷ []
unfolding byte_bits word_at
words_of_eight = refl

-- The definitions on a code that is known: no two 0s in a row, three symbols for two bits.
use Rattle.std.proofs.Common.{◌≡◌, ℕ, [], ◌∷◌, ◌++◌, map, Some, refl, arith}
use Rattle.std.specs.Prelude.{codes}
use Rattle.symbol_base.specs.declared.Block.{Block}
use Rattle.symbol_base.specs.Bits as bits
use Rattle.symbol_base.specs.Walk.{IsWalk}
use Rattle.code_spec.specs.declared.CodeRow.{CodeRow}
use Rattle.code_spec.specs.Code.{CodeData}
use Rattle.code_spec.specs.Output.{output, state_after, IsStep}
use Rattle.code_spec.specs.PlainText.{file_words, data_words, plain_text, plain_length}

abbrev pub row : ℕ → ℕ → CodeRow
row block to = record { block = record { value = block }; to = to }

abbrev pub no_two_zeros : CodeData
no_two_zeros = record {
  constraint = record { alphabet = 2; d = 0; k = Some 1; forbid = []; states = 0; edges = [] };
  p = 2;
  q = 3;
  past = 1;
  ahead = 1;
  rows = (row 2 1 ∷ row 6 1 ∷ row 3 0 ∷ row 3 2 ∷ []) ∷ (row 7 0 ∷ row 6 1 ∷ row 5 0 ∷ row 5 2 ∷ []) ∷ (row 5 0 ∷ row 5 2 ∷ row 7 0 ∷ row 7 2 ∷ []) ∷ [];
}

-- the byte 1B is the words 0 1 2 3, with one zero word in front and one behind
words-of_1b : data_words no_two_zeros (27 ∷ []) ≡ 0 ∷ 0 ∷ 1 ∷ 2 ∷ 3 ∷ 0 ∷ []
unfolding bits.word_at bits.byte_bits
words-of_1b = refl

-- they write 010 111 110 101 011 101
output-of_1b : map (λ (block : Block). block.value) (output no_two_zeros 0 (0 ∷ 0 ∷ 1 ∷ 2 ∷ 3 ∷ 0 ∷ [])) ≡ 2 ∷ 7 ∷ 6 ∷ 5 ∷ 3 ∷ 5 ∷ []
output-of_1b = refl

-- the word 0 leads from state 0 to 1, and the word 3 from there to 2
step-0 : IsStep no_two_zeros 0 0 1
step-0 = record { from = omega arith; by = omega arith; to = refl }

step-3 : IsStep no_two_zeros 1 3 2
step-3 = record { from = omega arith; by = omega arith; to = refl }

walk-03 : IsWalk (IsStep no_two_zeros) 0 (0 ∷ 3 ∷ []) 2
walk-03 = (1, step-0, (2, step-3, refl))

-- 4 is no data word of two bits, and 3 no state
no_step-4 : (next : ℕ) → IsStep no_two_zeros 0 4 next → ⊥
no_step-4 next step = omega (arith, step.by)

no_step-from_3 : (next : ℕ) → IsStep no_two_zeros 3 0 next → ⊥
no_step-from_3 next step = omega (arith, step.from)

-- and all the words lead back to state 0
state-after_1b : state_after no_two_zeros.rows 0 (0 ∷ 0 ∷ 1 ∷ 2 ∷ 3 ∷ 0 ∷ []) ≡ 0
state-after_1b = refl

-- the plain text of the byte 1B, a digit for each symbol and a line feed
text-of_1b : plain_text no_two_zeros (27 ∷ []) ≡ codes "010111110101011101" ++ 10 ∷ []
unfolding bits.word_at bits.byte_bits
text-of_1b = refl

-- which is 19 bytes
length-of_1b : plain_length no_two_zeros 1 ≡ 19
length-of_1b = refl

-- an empty file is lead-in and lead-out alone
text-of_empty : plain_text no_two_zeros [] ≡ codes "010111" ++ 10 ∷ []
unfolding bits.word_at bits.byte_bits
text-of_empty = refl

-- the last word of a file whose bits do not fill it ends in 0s
words-padded : file_words 3 (255 ∷ []) ≡ 7 ∷ 7 ∷ 6 ∷ []
unfolding bits.word_at bits.byte_bits
words-padded = refl

-- and no word is added where they fill the last one
words-filled : file_words 4 (177 ∷ []) ≡ 11 ∷ 1 ∷ []
unfolding bits.word_at bits.byte_bits
words-filled = refl

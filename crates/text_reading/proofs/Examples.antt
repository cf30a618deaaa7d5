-- The readers on small texts.
use Rattle.std.proofs.Common.{◌≡◌, ◌^◌, ◌-◌, [], ◌∷◌, map, Some, None, refl}
use Rattle.std.specs.Prelude.{codes}
use Rattle.text_reading.specs.Reading.{after_text, number_in, number_at, field_at, block_at}

texts : map (after_text (codes "rate")) (codes "rate 2" ∷ codes "rate" ∷ codes "rat" ∷ codes "a rate" ∷ [] ∷ []) ≡ Some (codes " 2") ∷ Some [] ∷ None ∷ None ∷ None ∷ []
unfolding after_text
texts = refl

empty_text : map (after_text []) (codes "rates" ∷ [] ∷ []) ≡ Some (codes "rates") ∷ Some [] ∷ []
unfolding after_text
empty_text = refl

-- a number of one digit in front of a space
small_fields : map (field_at 32 0 9) (codes "0 1" ∷ codes "7 " ∷ codes "10 " ∷ codes "00 " ∷ codes "05 " ∷ codes "5" ∷ (53 ∷ 10 ∷ []) ∷ codes "5x " ∷ codes " 5 " ∷ codes "-5 " ∷ codes "+5 " ∷ codes " " ∷ [] ∷ []) ≡ Some (0, codes "1") ∷ Some (7, []) ∷ None ∷ None ∷ None ∷ None ∷ None ∷ None ∷ None ∷ None ∷ None ∷ None ∷ None ∷ []
unfolding field_at number_at number_in after_text
small_fields = refl

-- a number in a range
fields_in_range : map (field_at 32 9 10) (codes "8 " ∷ codes "9 " ∷ codes "10  " ∷ codes "11 " ∷ []) ≡ None ∷ Some (9, []) ∷ Some (10, codes " ") ∷ None ∷ []
unfolding field_at number_at number_in after_text
fields_in_range = refl

-- at most 18 digits
long_fields : map (field_at 32 0 (2 ^ 64 - 1)) (codes "999999999999999999 " ∷ codes "1000000000000000000 " ∷ []) ≡ Some (999999999999999999, []) ∷ None ∷ []
unfolding field_at number_at number_in after_text
long_fields = refl

-- digits of symbols
blocks : map (block_at 2 3) (codes "010 1" ∷ codes "110" ∷ codes "1111" ∷ codes "012" ∷ codes "0/1" ∷ codes "01" ∷ []) ≡ Some (2, codes " 1") ∷ Some (6, []) ∷ Some (7, codes "1") ∷ None ∷ None ∷ None ∷ []
unfolding block_at
blocks = refl

no_digits : map (block_at 2 0) ([] ∷ codes "x" ∷ []) ≡ Some (0, []) ∷ Some (0, codes "x") ∷ []
unfolding block_at
no_digits = refl

blocks_over_more : block_at 3 4 (codes "0012") ≡ Some (5, [])
unfolding block_at
blocks_over_more = refl

longest_block : block_at 4 20 (codes "33333333333333333333") ≡ Some (2 ^ 40 - 1, [])
unfolding block_at
longest_block = refl

-- Why the error pattern that is found is the only one, and what it says of the word that is near.
use Rattle.std.proofs.Common.{◌≡◌, ℕ, ◌≤◌, List, [], ◌∷◌, length, refl, sym, ◌∙◌, ap, arith, get_or, eq-eqb}
use Rattle.std.specs.Prelude.{All}
use Rattle.std.proofs.lemmas.List.Elements.{All-nil, All-cons}
use Rattle.gf256.specs.Field.{IsElement}
use Rattle.gf256.proofs.FieldLaws.{plus_assoc, zero-plus, plus_self}
use Rattle.rs_code.specs.Word.{differences, IsNear}
use Rattle.rs_code.specs.Polynomial.{sum_of}
use Rattle.rs_code.specs.Laws.{AreSums}
use Rattle.rs_code.specs.inside.Errors.{weight, IsErrorPattern}
use Rattle.rs_code.proofs.Moments.{Elements}
use Rattle.rs_code.proofs.Words.{elements_of, length-sum_of, weighted_sum-sum_of, Elements-sum_of, differences-weight}
use Rattle.rs_code.proofs.Locators.{weighted_sum-errors_of, weight-errors_of, length-errors_of}

-- ---- near and pattern

pub all_of : (xs : List ℕ) → Elements xs → All IsElement xs
all_of [] xs_in = All-nil IsElement
all_of (x ∷ xs) xs_in = All-cons IsElement x xs xs_in.0 (all_of xs xs_in.1)

pub pattern_of_near : (t : ℕ) (received sums near : List ℕ) → All IsElement received → AreSums t received sums → IsNear t received near
    → IsErrorPattern t (length received) sums (sum_of received near)
pattern_of_near t received sums near received_in are_sums near_in = record {
  same_length = length-errors_of t received near near_in;
  elements = all_of (sum_of received near) (Elements-sum_of received near (elements_of received received_in) (elements_of near near_in.code_word.elements));
  few = weight-errors_of t received near near_in;
  sums_agree = λ i h. are_sums i h ∙ sym (weighted_sum-errors_of t received near near_in i h);
}

pub sum_of-twice : (u v : List ℕ) → length u ≡ length v → sum_of u (sum_of u v) ≡ v
sum_of-twice [] [] same = refl
sum_of-twice [] (y ∷ v) same = refl
sum_of-twice (x ∷ u) [] same = absurd (omega (arith, same))
sum_of-twice (x ∷ u) (y ∷ v) same =
    rw (← plus_assoc x x y, plus_self x, zero-plus y, sum_of-twice u v (omega (arith, same))) refl

pub differences-errors : (word errors : List ℕ) → length errors ≡ length word → differences word (sum_of word errors) ≡ weight errors
differences-errors word errors same =
    differences-weight word (sum_of word errors) (sym (length-sum_of word errors (sym same))) ∙ ap weight (sum_of-twice word errors (sym same))

-- a word and errors with its sums make a word of the code
pub near_of_pattern : (t : ℕ) (word sums errors : List ℕ) → length word ≤ 255 → All IsElement word → All IsElement errors
    → length errors ≡ length word → weight errors ≤ t → AreSums t word sums → AreSums t errors sums
    → IsNear t word (sum_of word errors)
near_of_pattern t word sums errors short word_in errors_in same few word_sums errors_sums =
    let long : length (sum_of word errors) ≡ length word = length-sum_of word errors (sym same) in
    record {
      code_word = record {
        short = omega (arith, long, short);
        elements = all_of (sum_of word errors) (Elements-sum_of word errors (elements_of word word_in) (elements_of errors errors_in));
        sums = λ i h. weighted_sum-sum_of word errors (sym same) i ∙ rw (← word_sums i h, ← errors_sums i h) (plus_self (get_or sums i 0));
      };
      same_length = long;
      close = omega (arith, differences-errors word errors same, few);
    }

-- a word differs from itself nowhere
pub differences-same : (word : List ℕ) → differences word word ≡ 0
differences-same [] = refl
differences-same (x ∷ word) = rw (differences-same word, eq-eqb x x refl) refl

-- Texts of numbers: the spelling of a number is the one text that is read as it.
use Rattle.std.proofs.Common.{◌≡◌, ℕ, zero, suc, ◌^◌, ◌<◌, ◌≤◌, true, eqb, ltb, leb, List, length, get_or, Option, Some, None, refl, sym, ap, ◌∙◌, inl, inr, arith}
use Rattle.std.specs.Prelude.{◌&&◌, ◌||◌, ◌⊎◌, ◌≢◌, IfSome, IfNone}
use Rattle.std.specs.Str.{all_ascii_digits}
use Rattle.std.specs.Str.Parse.{digits_value}
use Rattle.std.specs.Fmt.{decimal}
use Rattle.std.proofs.lemmas.Bool.{and_parts, and_from, or_cases, or_left, lt-ltb, ltb-true, le-leb, leb-true, eqb-true}
use Rattle.std.proofs.lemmas.Str.Parse.{IsNumeralModel, numerals_by_value, tells_all_ascii_digits, digits_value_short}
use Rattle.std.proofs.lemmas.Fmt.{digits_decimal, digits_value-decimal, decimal-digits_value, length-decimal-le, decimal_nonempty, first_decimal, decimal_digit}
use Rattle.text_reading.specs.Reading.{is_decimal, number_in}
use Rattle.text_reading.proofs.Steps.{guard_some}

-- std's model of digits
pub digits_are_numerals : IsNumeralModel (λ ds. all_ascii_digits ds ≡ true) (digits_value 10)
digits_are_numerals = numerals_by_value (λ ds. all_ascii_digits ds ≡ true) tells_all_ascii_digits

-- what a decimal text is
pub record IsDecimalText (text : List ℕ) : Type 0 where
  digits : all_ascii_digits text ≡ true
  some : 0 < length text
  few : length text ≤ 18
  leads : (48 < get_or text 0 0) ⊎ (length text ≡ 1)

decimal_parts : (text : List ℕ) → is_decimal text ≡ true → IsDecimalText text
decimal_parts text h =
    let front = and_parts (all_ascii_digits text && ltb 0 (length text) && leb (length text) 18) (ltb 48 (get_or text 0 0) || eqb (length text) 1) h in
    let middle = and_parts (all_ascii_digits text && ltb 0 (length text)) (leb (length text) 18) front.0 in
    let first = and_parts (all_ascii_digits text) (ltb 0 (length text)) middle.0 in
    record {
      digits = first.0;
      some = ltb-true 0 (length text) first.1;
      few = leb-true (length text) 18 middle.1;
      leads = elim (or_cases (ltb 48 (get_or text 0 0)) (eqb (length text) 1) front.1) [
        | inl big ↦ inl (ltb-true 48 (get_or text 0 0) big)
        | inr one ↦ inr (eqb-true (length text) 1 one)
      ];
    }

leading : (n : ℕ) → n < 2 ^ 64 → (ltb 48 (get_or (decimal n) 0 0) || eqb (length (decimal n)) 1) ≡ true
leading zero small = rw (decimal_digit 0 (omega arith)) refl
leading (suc n) small = or_left _ _ (lt-ltb _ _ (first_decimal (suc n) (omega arith) small))

pub is_decimal-decimal : (n : ℕ) → n < 10 ^ 18 → is_decimal (decimal n) ≡ true
is_decimal-decimal n small =
    let fits : n < 2 ^ 64 = omega arith in
    and_from _ _ (and_from _ _ (and_from _ _ (digits_decimal digits_are_numerals n fits) (lt-ltb _ _ (decimal_nonempty n fits)))
    (le-leb _ _ (length-decimal-le 18 n (omega arith) small fits))) (leading n fits)

-- the spelling of a number is read as it
pub number_in-decimal : (n : ℕ) → n < 10 ^ 18 → number_in (decimal n) ≡ Some n
unfolding number_in
number_in-decimal n small = rw (is_decimal-decimal n small, digits_value-decimal digits_are_numerals n (omega arith)) refl

-- what is read as a number is its spelling
pub number_in_spells : (text : List ℕ) (n : ℕ) → number_in text ≡ Some n → (text ≡ decimal n) × (n < 10 ^ 18)
unfolding number_in
number_in_spells text n e =
    let read = guard_some (is_decimal text) (digits_value 10 text) n e in
    let parts = decimal_parts text read.0 in
    let few : digits_value 10 text < 10 ^ 18 = digits_value_short digits_are_numerals text 18 parts.digits parts.few in
    let one : get_or text 0 0 ≡ 48 → length text ≡ 1 = λ zero_first. elim parts.leads [ inl big ↦ absurd (omega arith) | inr one ↦ one ] in
    let spelled : decimal (digits_value 10 text) ≡ text = decimal-digits_value digits_are_numerals text parts.digits parts.some one (omega arith) in
    (sym spelled ∙ ap (λ v. decimal v) read.1, omega arith)

-- an option that holds nothing
pub none_of : {A : Type 0} (o : Option A) → ((x : A) → o ≡ Some x → ⊥) → o ≡ None
none_of None h = refl
none_of (Some x) h = absurd (h x refl)

-- what spells no number is read as none
pub number_in_none : (text : List ℕ) → ((n : ℕ) → n < 10 ^ 18 → text ≡ decimal n → ⊥) → number_in text ≡ None
number_in_none text h = none_of (number_in text) (λ n e. let spelled = number_in_spells text n e in h n spelled.1 spelled.0)

-- what decimal answers is what is read
pub number_in_is : (text : List ℕ) (o : Option ℕ) → IfSome o (λ n. (n < 10 ^ 18) × (text ≡ decimal n)) → IfNone o ((n : ℕ) → n < 10 ^ 18 → text ≢ decimal n) → o ≡ number_in text
number_in_is text None found other = sym (number_in_none text other)
number_in_is text (Some n) found other = sym (ap (λ (t : List ℕ). number_in t) found.1 ∙ number_in-decimal n found.0)

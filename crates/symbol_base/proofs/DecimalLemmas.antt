-- Texts of digits and the numbers that they spell.
use Rattle.std.proofs.Common.{◌≡◌, ℕ, ◌+◌, ◌*◌, ◌-◌, ◌^◌, ◌<◌, ◌≤◌, List, length, get_or, take, sym, ap, ◌∙◌, inl, inr, arith}
use Rattle.std.specs.Fmt.{decimal}
use Rattle.std.specs.Int.{IsInRange}
use Rattle.std.specs.Str.Parse.{AllDigits, digits_value}
use Rattle.std.proofs.Math.Nat.{pow-le-pow_right}
use Rattle.std.proofs.lemmas.Int.Digits.{digits_value-lt, digits_value_more}
use Rattle.std.proofs.lemmas.Str.{digit_value_digit}
use Rattle.std.proofs.lemmas.Str.Parse.{numerals_by_value, tells_digits, tells_by_index, digit_at}
use Rattle.std.proofs.lemmas.Fmt.{decimal_is_IsNumeral, decimal_digit, first_decimal, length-decimal-le, decimal_nonempty, decimal-digits_value}
use Rattle.std.proofs.lemmas.List.{get_or_default, get_or-take, length-take-le}
use Rattle.std.proofs.lemmas.Bool.{cases_eq}
use Rattle.symbol_base.specs.Decimal.{IsDecimal}

-- digits at each place are digits from first to last
pub AllDigits-from_places : (text : List ℕ) → ((i : ℕ) → i < length text → IsInRange 48 57 (get_or text i 0)) → AllDigits 10 text
AllDigits-from_places text h = (numerals_by_value (λ ds. (i : ℕ) → i < length ds → IsInRange 48 57 (get_or ds i 0)) tells_by_index).to text h

-- a text of digits is a decimal text's digits
pub AllDigits-from_decimal : (text : List ℕ) → IsDecimal text → AllDigits 10 text
AllDigits-from_decimal text shape = AllDigits-from_places text (λ i h. shape.digits i 0 h)

-- the value of a decimal text is below 10^18
pub value_below : (text : List ℕ) → IsDecimal text → digits_value 10 text < 10 ^ 18
value_below text shape =
    let below = digits_value-lt 10 text (AllDigits-from_decimal text shape) in
    let power : 10 ^ length text ≤ 10 ^ 18 = pow-le-pow_right (omega arith) shape.at_most_eighteen in
    omega arith

-- a decimal text is what is written of its value
pub spelled_by_value : (text : List ℕ) → IsDecimal text → text ≡ decimal (digits_value 10 text)
spelled_by_value text shape =
    let below = value_below text shape in
    sym (decimal-digits_value (numerals_by_value (AllDigits 10) tells_digits) text (AllDigits-from_decimal text shape)
    (omega (arith, shape.at_least_one)) shape.no_leading_zero (omega arith))

-- what is written of a number below 10^18 is a decimal text
pub IsDecimal-decimal : (n : ℕ) → n < 10 ^ 18 → IsDecimal (decimal n)
IsDecimal-decimal n h =
    let small : n < 2 ^ 64 = omega arith in
    let numeral = decimal_is_IsNumeral n small in
    record {
      at_least_one = decimal_nonempty n small;
      at_most_eighteen = length-decimal-le 18 n (omega arith) h small;
      digits = λ k d within. rw (get_or_default (decimal n) k d 0 within) (digit_at (decimal n) k numeral.0.1 within);
      no_leading_zero = λ zero_first. elim (cases_eq n 0) [
        | inl none ↦ rw none (ap length (decimal_digit 0 (omega arith)))
        | inr some ↦ absurd (let first = first_decimal n (omega arith) small in omega arith)
      ];
    }

-- one more digit of a number below a power of ten
pub next_digit : (text : List ℕ) (i : ℕ) → IsDecimal text → i < length text
    → digits_value 10 (take (i + 1) text) ≡ digits_value 10 (take i text) * 10 + (get_or text i 0 - 48)
next_digit text i shape h =
    let digit = digit_value_digit (get_or text i 0) (shape.digits i 0 h) in
    digits_value_more 10 text i h ∙ omega arith

-- the first i digits of a decimal text make a number below 10^i
value_within : (text : List ℕ) (i : ℕ) → IsDecimal text → i ≤ length text → digits_value 10 (take i text) < 10 ^ i
value_within text i shape h =
    let count : length (take i text) ≡ i = length-take-le i text h in
    let digits : AllDigits 10 (take i text) = AllDigits-from_places (take i text) (λ j below.
    let inside : j < i = omega arith in
    rw (get_or-take i text j 0 inside) (shape.digits j 0 (omega arith))) in
    rw count at (digits_value-lt 10 (take i text) digits)

-- so each of them is below 10^18 with one more
pub next_fits : (text : List ℕ) (i : ℕ) → IsDecimal text → i < length text
    → digits_value 10 (take i text) * 10 + (get_or text i 0 - 48) < 10 ^ 18
next_fits text i shape h =
    let below = value_within text (i + 1) shape (omega arith) in
    let count : i + 1 ≤ 18 = omega (arith, shape.at_most_eighteen) in
    let power : 10 ^ (i + 1) ≤ 10 ^ 18 = pow-le-pow_right (omega arith) count in
    rw (← next_digit text i shape h) (omega arith)

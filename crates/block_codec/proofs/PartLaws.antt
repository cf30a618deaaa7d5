-- Numbers of digits that are joined and divided.
use Rattle.std.proofs.Common.{◌≡◌, ℕ, ◌+◌, ◌-◌, ◌*◌, ◌/◌, ◌%◌, ◌<◌, ◌≤◌, ◌^◌, List, [], ◌∷◌, ◌++◌, length, take, drop, sym, ap, ap₂, ◌∙◌, subst, arith, add_assoc, bit_or, bit_and}
use Rattle.std.proofs.Math.Nat.{mul_assoc, add-mul, mod-eq_of_lt, mod-lt, pow-le-pow_right, div-lt_iff_lt-mul}
use Rattle.std.proofs.lemmas.Nat.{or_shifted, and_mask, one_shl, div-mul-add, mod-mul-add, shl_below, pow-add}
use Rattle.std.proofs.lemmas.List.{length-append, length-take-le, length-drop, take-append-drop}
use Rattle.std.proofs.lemmas.List.Elements.{All-append, All-take, All-drop}
use Rattle.symbol_base.specs.Block.{number_of, symbols_of}
use Rattle.symbol_base.specs.Word.{IsOver}
use Rattle.symbol_base.proofs.BlockLemmas.{power_positive, digit_before, number_of-lt, length-symbols_of, number_of-symbols_of, IsOver-symbols_of, symbols_of-number_of}
use Rattle.block_codec.specs.inside.Parts.{HoldsDigits, TakesOut}
use Rattle.block_codec.specs.declared.part.Part.{Part}

-- the number of symbols behind symbols
number_of-append : (a : ℕ) (xs ys : List ℕ) → number_of a (xs ++ ys) ≡ number_of a xs * a ^ length ys + number_of a ys
number_of-append a [] ys = omega arith
number_of-append a (x ∷ xs) ys =
    let weight : a ^ length (xs ++ ys) ≡ a ^ length xs * a ^ length ys = ap (λ (n : ℕ). a ^ n) (length-append xs ys) ∙ pow-add a (length xs) (length ys) in
    let first : x * a ^ length (xs ++ ys) ≡ x * a ^ length xs * a ^ length ys = ap (λ (n : ℕ). x * n) weight ∙ sym (mul_assoc x (a ^ length xs) (a ^ length ys)) in
    ap₂ (λ (m n : ℕ). m + n) first (number_of-append a xs ys)
    ∙ sym (add_assoc (x * a ^ length xs * a ^ length ys) (number_of a xs * a ^ length ys) (number_of a ys))
    ∙ ap (λ (n : ℕ). n + number_of a ys) (sym (add-mul (x * a ^ length xs) (number_of a xs) (a ^ length ys)))

-- digits behind digits
pub digits_joined : (value count digits width : ℕ) (held : List ℕ) → digits < 2 ^ width → HoldsDigits value count held
    → HoldsDigits (value * 2 ^ width + digits) (count + width) (held ++ symbols_of 2 width digits)
digits_joined value count digits width held small holds =
    let more = symbols_of 2 width digits in
    let len = length-symbols_of 2 width digits in
    let number : number_of 2 more ≡ digits = number_of-symbols_of 2 width digits (omega arith) ∙ mod-eq_of_lt small in
    record {
      counted = omega (arith, holds.counted, len, length-append held more);
      number =
          ap₂ (λ a b. a * 2 ^ width + b) holds.number (sym number)
          ∙ ap (λ n. number_of 2 held * 2 ^ n + number_of 2 more) (sym len)
          ∙ sym (number_of-append 2 held more);
      over = All-append (λ s. s < 2) held more holds.over (IsOver-symbols_of 2 width digits (omega arith));
    }

-- the first digits of a number and the others
pub record AreDivided (value size left : ℕ) (digits : List ℕ) : Type 0 where
  pub split : digits ≡ symbols_of 2 size (value / 2 ^ left) ++ drop size digits
  pub held : HoldsDigits (value % 2 ^ left) left (drop size digits)

pub digits_divided : (value count size left : ℕ) (digits : List ℕ) → count ≡ size + left → HoldsDigits value count digits → AreDivided value size left digits
digits_divided value count size left digits sum holds =
    let front = take size digits in
    let back = drop size digits in
    let first : length front ≡ size = length-take-le size digits (omega (arith, sum, holds.counted)) in
    let second : length back ≡ left = omega (arith, length-drop size digits, sum, holds.counted) in
    let over : IsOver 2 front = All-take (λ s. s < 2) size digits holds.over in
    let over' : IsOver 2 back = All-drop (λ s. s < 2) size digits holds.over in
    let small : number_of 2 back < 2 ^ left = subst (λ n. number_of 2 back < 2 ^ n) second (number_of-lt 2 back over') in
    let is : value ≡ number_of 2 front * 2 ^ left + number_of 2 back =
    holds.number ∙ ap (λ (list : List ℕ). number_of 2 list) (sym (take-append-drop size digits)) ∙ number_of-append 2 front back
    ∙ ap (λ n. number_of 2 front * 2 ^ n + number_of 2 back) second in
    let high : value / 2 ^ left ≡ number_of 2 front = ap (λ n. n / 2 ^ left) is ∙ div-mul-add (number_of 2 front) (2 ^ left) (number_of 2 back) small in
    let low : value % 2 ^ left ≡ number_of 2 back = ap (λ n. n % 2 ^ left) is ∙ mod-mul-add (number_of 2 front) (2 ^ left) (number_of 2 back) small in
    let symbols : symbols_of 2 size (value / 2 ^ left) ≡ front =
    ap₂ (λ n v. symbols_of 2 n v) (sym first) high ∙ symbols_of-number_of 2 front (omega arith) over in
    record {
      split = sym (take-append-drop size digits) ∙ ap (λ (list : List ℕ). list ++ back) (sym symbols);
      held = record { counted = sym second; number = low; over = over' };
    }

-- the shift and the join of two numbers
pub joined_by_shift : (value count digits width : ℕ) → value < 2 ^ count → digits < 2 ^ width → count + width < 32
    → bit_or (value * 2 ^ width % 4294967296) digits ≡ value * 2 ^ width + digits
joined_by_shift value count digits width below small fits =
    let bound : value * 2 ^ width < 2 ^ (count + width) = shl_below value count width below in
    let some : 0 < 2 = omega arith in
    let within : count + width ≤ 32 = omega (arith, fits) in
    let most : 2 ^ (count + width) ≤ 2 ^ 32 = pow-le-pow_right some within in
    let plain : value * 2 ^ width % 4294967296 ≡ value * 2 ^ width = mod-eq_of_lt (omega (arith, bound, most)) in
    ap (λ n. bit_or n digits) plain ∙ or_shifted value width digits small

pub joined_by_wide_shift : (value count digits width : ℕ) → value < 2 ^ count → digits < 2 ^ width → count + width ≤ 64
    → bit_or (value * 2 ^ width % 18446744073709551616) digits ≡ value * 2 ^ width + digits
joined_by_wide_shift value count digits width below small fits =
    let bound : value * 2 ^ width < 2 ^ (count + width) = shl_below value count width below in
    let some : 0 < 2 = omega arith in
    let most : 2 ^ (count + width) ≤ 2 ^ 64 = pow-le-pow_right some fits in
    let plain : value * 2 ^ width % 18446744073709551616 ≡ value * 2 ^ width = mod-eq_of_lt (omega (arith, bound, most)) in
    ap (λ n. bit_or n digits) plain ∙ or_shifted value width digits small

pub joined_below : (value count digits width : ℕ) → value < 2 ^ count → digits < 2 ^ width → value * 2 ^ width + digits < 2 ^ (count + width)
joined_below value count digits width below small =
    subst (λ n. value * 2 ^ width + digits < n) (sym (pow-add 2 count width)) (digit_before (2 ^ count) (2 ^ width) value digits below small)

pub last_by_mask : (value count : ℕ) → count < 32 → bit_and value (1 * 2 ^ count % 4294967296 - 1) ≡ value % 2 ^ count
last_by_mask value count fits = ap (λ n. bit_and value (n - 1)) (one_shl count 32 fits) ∙ and_mask value count

pub last_by_wide_mask : (value count : ℕ) → count < 64 → bit_and value (1 * 2 ^ count % 18446744073709551616 - 1) ≡ value % 2 ^ count
last_by_wide_mask value count fits = ap (λ n. bit_and value (n - 1)) (one_shl count 64 fits) ∙ and_mask value count

pub last_below : (value count : ℕ) → value % 2 ^ count < 2 ^ count
last_below value count = mod-lt value (power_positive 2 count (omega arith))

-- the part that comes after digits were put behind others
pub part_more : (value count digits width joined : ℕ) (held : List ℕ) → joined ≡ value * 2 ^ width + digits → digits < 2 ^ width → HoldsDigits value count held
    → HoldsDigits joined (count + width) (held ++ symbols_of 2 width digits)
part_more value count digits width joined held is small holds =
    subst (λ n. HoldsDigits n (count + width) (held ++ symbols_of 2 width digits)) (sym is) (digits_joined value count digits width held small holds)

-- what is taken out of more digits than a group has is below its power
pub whole_below : (value count size : ℕ) → value < 2 ^ count → size ≤ count → value / 2 ^ (count - size) < 2 ^ size
whole_below value count size below long =
    let sum : count ≡ size + (count - size) = omega (arith, long) in
    let power : 2 ^ count ≡ 2 ^ size * 2 ^ (count - size) = ap (λ n. 2 ^ n) sum ∙ pow-add 2 size (count - size) in
    let some : 0 < 2 ^ (count - size) = power_positive 2 (count - size) (omega arith) in
    (div-lt_iff_lt-mul some).1 (subst (λ n. value < n) power below)

-- a whole group, and the part that is left
pub part_taken : (value count size : ℕ) (digits : List ℕ) (part : Part) → value < 2 ^ count → size ≤ count → part.value ≡ value % 2 ^ (count - size) → part.count ≡ count - size
    → HoldsDigits value count digits → TakesOut size digits part (value / 2 ^ (count - size))
part_taken value count size digits part below long low left holds =
    let parts = digits_divided value count size (count - size) digits (omega (arith, long)) holds in
    record {
      rest = drop size digits;
      split = parts.split;
      below = whole_below value count size below long;
      held = record { counted = left ∙ parts.held.counted; number = low ∙ parts.held.number; over = parts.held.over };
    }

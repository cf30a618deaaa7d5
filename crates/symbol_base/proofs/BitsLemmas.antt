-- The bits of bytes by their places, and the words that are cut from them.
use Rattle.std.proofs.Common.{◌≡◌, ◌≢◌, ℕ, zero, suc, ◌+◌, ◌*◌, ◌-◌, ◌/◌, ◌%◌, ◌^◌, ◌<◌, ◌≤◌, List, [], ◌∷◌, ◌++◌, length, get_or, set, map, refl, sym, ap, ◌∙◌, subst, inl, inr, arith, add-one, bit_and, bit_or, eqb, eq-eqb, w8}
use Rattle.std.specs.Prelude.{IsTrue}
use Rattle.std.specs.List.{range_with_len}
use Rattle.std.specs.Int.{bit_at}
use Rattle.std.proofs.Math.Nat.{pow-suc, div-div-eq-div-mul, mod-one}
use Rattle.std.proofs.Math.Arith.{mod-mul}
use Rattle.std.proofs.lemmas.Nat.{or_shifted, one_shl, and_mask}
use Rattle.std.proofs.lemmas.Nat.Bits.{bit_at_cat_low, bit_at_cat_high, bit_at-zero, shr_and_one, bit_at_set_same, bit_at_set_other, bit_at_clear_same, bit_at_clear_other}
use Rattle.std.proofs.lemmas.List.{length-append, length-set, get_or_append_left, get_or-append-add, get_or-set_same, get_or-set_other, ext_get_or}
use Rattle.std.proofs.lemmas.List.FromFn.{map-range_with_len_more}
use Rattle.std.proofs.lemmas.Bool.{cases_lt, cases_eq, eqb-true}
use Rattle.symbol_base.specs.Block.{number_of}
use Rattle.symbol_base.specs.Bits.{byte_bits, bits, word_at}
use Rattle.symbol_base.proofs.BlockLemmas.{power_positive, length-symbols_of, get_or-symbols_of, number_of-push}

-- a byte has eight bits
pub length-byte_bits : (byte : ℕ) → length (byte_bits byte) ≡ 8
unfolding byte_bits
length-byte_bits byte = length-symbols_of 2 8 byte

-- the bit of a byte at a place, counted from the most significant
pub get_or-byte_bits : (byte i d : ℕ) → i < 8 → get_or (byte_bits byte) i d ≡ bit_at byte (7 - i)
unfolding byte_bits
get_or-byte_bits byte i d h = get_or-symbols_of 2 8 byte i d h

-- n bytes have 8 n bits
pub length-bits : (bytes : List ℕ) → length (bits bytes) ≡ 8 * length bytes
length-bits [] = refl
length-bits (byte ∷ rest) =
    let behind = length-bits rest in
    let first = length-byte_bits byte in
    length-append (byte_bits byte) (bits rest) ∙ omega arith

-- the bit of bytes at a place, 0 past the end
pub get_or-bits : (bytes : List ℕ) (i : ℕ) → get_or (bits bytes) i 0 ≡ bit_at (get_or bytes (i / 8) 0) (7 - i % 8)
get_or-bits [] i = sym (bit_at-zero (7 - i % 8))
get_or-bits (byte ∷ rest) i = elim (cases_lt i 8) [
  | inl first ↦ (let within : i < length (byte_bits byte) = rw length-byte_bits first in
      let index : i / 8 ≡ 0 = omega arith in
      let place : i % 8 ≡ i = omega arith in
      rw (index, place) (get_or_append_left (byte_bits byte) (bits rest) 0 i within ∙ get_or-byte_bits byte i 0 first))
  | inr later ↦ (let j = i - 8 in
      let split : i ≡ length (byte_bits byte) + j = rw length-byte_bits (omega arith) in
      let index : i / 8 ≡ suc (j / 8) = omega arith in
      let place : i % 8 ≡ j % 8 = omega arith in
      rw (index, place) (ap (λ n. get_or (byte_bits byte ++ bits rest) n 0) split ∙ get_or-append-add (byte_bits byte) (bits rest) j 0 ∙ get_or-bits rest j))
]

-- a byte that differs in one bit alone changes that bit of the bytes alone
pub bits-set : (bytes : List ℕ) (at byte value : ℕ) → at / 8 < length bytes
    → bit_at byte (7 - at % 8) ≡ value
    → ((i : ℕ) → i < 8 → i ≢ 7 - at % 8 → bit_at byte i ≡ bit_at (get_or bytes (at / 8) 0) i)
    → bits (set bytes (at / 8) byte) ≡ set (bits bytes) at value
bits-set bytes at byte value within here others =
    let inside : at < length (bits bytes) = rw length-bits (omega arith) in
    ext_get_or 0 (bits (set bytes (at / 8) byte)) (set (bits bytes) at value)
    (length-bits (set bytes (at / 8) byte) ∙ ap (λ n. 8 * n) (length-set bytes (at / 8) byte) ∙ sym (length-bits bytes) ∙ sym (length-set (bits bytes) at value))
    (λ i h. get_or-bits (set bytes (at / 8) byte) i ∙ elim (cases_eq i at) [
      | inl same ↦ rw same (ap (λ n. bit_at n (7 - at % 8)) (get_or-set_same bytes (at / 8) byte 0 within) ∙ here ∙ sym (get_or-set_same (bits bytes) at value 0 inside))
      | inr apart ↦ elim (cases_eq (i / 8) (at / 8)) [
        | inl same ↦ (let place : 7 - i % 8 ≢ 7 - at % 8 = λ e. apart (omega arith) in
            rw (get_or-set_other (bits bytes) at i value 0 apart, get_or-bits bytes i, same, get_or-set_same bytes (at / 8) byte 0 within) (others (7 - i % 8) (omega arith) place))
        | inr other ↦ rw (get_or-set_other (bits bytes) at i value 0 apart, get_or-bits bytes i, get_or-set_other bytes (at / 8) (i / 8) byte 0 other) refl
      ]
    ])

-- one function of the first p places and another that agrees with it there give one list
same_map : (f g : ℕ → ℕ) (p : ℕ) → ((j : ℕ) → j < p → f j ≡ g j) → map f (range_with_len 0 p) ≡ map g (range_with_len 0 p)
same_map f g zero h = refl
same_map f g (suc p) h =
    let behind = same_map f g p (λ j below. h j (omega arith)) in
    let last = h p (omega arith) in
    let one_more : map f (range_with_len 0 (p + 1)) ≡ map g (range_with_len 0 (p + 1)) =
    rw (map-range_with_len_more f 0 p p (omega arith), map-range_with_len_more g 0 p p (omega arith), behind, last) refl in
    subst (λ n. map f (range_with_len 0 n) ≡ map g (range_with_len 0 n)) (add-one p) one_more

-- the digit behind a window joins it
digit_joins : (n m p : ℕ) → p + 1 ≤ m → n / 2 ^ (m - p) % 2 ^ p * 2 + bit_at n (m - 1 - p) ≡ n / 2 ^ (m - (p + 1)) % 2 ^ (p + 1)
digit_joins n m p h =
    let rest = n / 2 ^ (m - (p + 1)) in
    let next : m - p ≡ suc (m - (p + 1)) = omega arith in
    let halved : n / 2 ^ (m - p) ≡ n / 2 ^ (m - (p + 1)) / 2 =
    ap (λ k. n / 2 ^ k) next ∙ ap (λ k. n / k) (pow-suc 2 (m - (p + 1))) ∙ sym (div-div-eq-div-mul n (2 ^ (m - (p + 1))) 2) in
    let place : m - 1 - p ≡ m - (p + 1) = omega arith in
    let power : 2 ^ (p + 1) ≡ 2 ^ p * 2 = ap (λ k. 2 ^ k) (add-one p) ∙ pow-suc 2 p in
    rw (halved, place, power) (sym (mod-mul rest {c = 2} (power_positive 2 p (omega arith)) (omega arith)))

-- the first p of the m lowest bits of a number, as a number
pub number_of_window : (n m p : ℕ) → p ≤ m → number_of 2 (map (λ j. bit_at n (m - 1 - j)) (range_with_len 0 p)) ≡ n / 2 ^ (m - p) % 2 ^ p
number_of_window n m zero h = sym (mod-one (n / 2 ^ (m - 0)))
number_of_window n m (suc p) h =
    let digit : ℕ → ℕ = λ j. bit_at n (m - 1 - j) in
    let one_more : number_of 2 (map digit (range_with_len 0 (p + 1))) ≡ n / 2 ^ (m - (p + 1)) % 2 ^ (p + 1) =
    ap (number_of 2) (map-range_with_len_more digit 0 p p (omega arith))
    ∙ number_of-push 2 (map digit (range_with_len 0 p)) (digit p)
    ∙ ap (λ k. k * 2 + digit p) (number_of_window n m p (omega arith))
    ∙ digit_joins n m p (omega arith) in
    subst (λ k. number_of 2 (map digit (range_with_len 0 k)) ≡ n / 2 ^ (m - k) % 2 ^ k) (add-one p) one_more

-- the bits of two neighbouring bytes are those of the number that they make
pub pair_bit : (bytes : List ℕ) (at j : ℕ) → at % 8 + j < 16 → get_or bytes (at / 8 + 1) 0 < 256
    → get_or (bits bytes) (at + j) 0 ≡ bit_at (get_or bytes (at / 8) 0 * 2 ^ 8 + get_or bytes (at / 8 + 1) 0) (15 - (at % 8 + j))
pair_bit bytes at j h small = get_or-bits bytes (at + j) ∙ elim (cases_lt (at % 8 + j) 8) [
  | inl first ↦ (let index : (at + j) / 8 ≡ at / 8 = omega arith in
      let place : 7 - (at + j) % 8 ≡ 15 - (at % 8 + j) - 8 = omega arith in
      rw (index, place) (sym (bit_at_cat_high (get_or bytes (at / 8) 0) 8 (get_or bytes (at / 8 + 1) 0) (15 - (at % 8 + j)) small (omega arith))))
  | inr later ↦ (let index : (at + j) / 8 ≡ at / 8 + 1 = omega arith in
      let place : 7 - (at + j) % 8 ≡ 15 - (at % 8 + j) = omega arith in
      rw (index, place) (sym (bit_at_cat_low (get_or bytes (at / 8) 0) 8 (get_or bytes (at / 8 + 1) 0) (15 - (at % 8 + j)) (omega arith))))
]

-- the test of a byte's bit is the test of that bit
pub tested_bit : (bytes : List ℕ) (at : ℕ)
    → (IsTrue (eqb (bit_and (get_or bytes (at / 8) 0 / 2 ^ (7 - at % 8)) 1) 1) → get_or (bits bytes) at 0 ≡ 1)
    × (get_or (bits bytes) at 0 ≡ 1 → IsTrue (eqb (bit_and (get_or bytes (at / 8) 0 / 2 ^ (7 - at % 8)) 1) 1))
tested_bit bytes at =
    let place : bit_and (get_or bytes (at / 8) 0 / 2 ^ (7 - at % 8)) 1 ≡ get_or (bits bytes) at 0 =
    shr_and_one (get_or bytes (at / 8) 0) (7 - at % 8) ∙ sym (get_or-bits bytes at) in
    ((λ h. sym place ∙ eqb-true _ _ h), (λ h. eq-eqb _ _ (place ∙ h)))

-- a byte with one bit more is the bytes with a 1 there
pub bits-set_one : (bytes : List ℕ) (at : ℕ) → at < 8 * length bytes
    → bits (set bytes (at / 8) (bit_or (get_or bytes (at / 8) 0) (1 * 2 ^ (7 - at % 8) % 256))) ≡ set (bits bytes) at 1
bits-set_one bytes at h =
    bits-set bytes at (bit_or (get_or bytes (at / 8) 0) (1 * 2 ^ (7 - at % 8) % 256)) 1 (omega arith)
    (bit_at_set_same w8 (get_or bytes (at / 8) 0) (7 - at % 8) (omega arith))
    (λ i below other. bit_at_set_other w8 (get_or bytes (at / 8) 0) (7 - at % 8) (omega arith) i other)

-- a byte with one bit less is the bytes with a 0 there
pub bits-set_zero : (bytes : List ℕ) (at : ℕ) → at < 8 * length bytes
    → bits (set bytes (at / 8) (bit_and (get_or bytes (at / 8) 0) (255 - 1 * 2 ^ (7 - at % 8) % 256))) ≡ set (bits bytes) at 0
bits-set_zero bytes at h =
    bits-set bytes at (bit_and (get_or bytes (at / 8) 0) (255 - 1 * 2 ^ (7 - at % 8) % 256)) 0 (omega arith)
    (bit_at_clear_same w8 (get_or bytes (at / 8) 0) (7 - at % 8) (omega arith))
    (λ i below other. bit_at_clear_other w8 (get_or bytes (at / 8) 0) (7 - at % 8) (omega arith) i below other)

-- a word of at most eight bits is a window of two neighbouring bytes
pub word_of_pair : (bytes : List ℕ) (at p : ℕ) → p ≤ 8 → get_or bytes (at / 8 + 1) 0 < 256
    → (get_or bytes (at / 8) 0 * 2 ^ 8 + get_or bytes (at / 8 + 1) 0) / 2 ^ (16 - at % 8 - p) % 2 ^ p ≡ word_at (bits bytes) at p
unfolding word_at
word_of_pair bytes at p eight small =
    let pair = get_or bytes (at / 8) 0 * 2 ^ 8 + get_or bytes (at / 8 + 1) 0 in
    let m = 16 - at % 8 in
    let seen : (j : ℕ) → j < p → get_or (bits bytes) (at + j) 0 ≡ bit_at pair (m - 1 - j) =
    λ j below. pair_bit bytes at j (omega arith) small ∙ ap (bit_at pair) (omega arith) in
    sym (ap (number_of 2) (same_map (λ j. get_or (bits bytes) (at + j) 0) (λ j. bit_at pair (m - 1 - j)) p seen)
    ∙ number_of_window pair m p (omega arith))

-- the shift and the mask of two neighbouring bytes give the word
pub word_by_mask : (bytes : List ℕ) (at p high low : ℕ) → p ≤ 8 → high < 256 → low < 256
    → high ≡ get_or bytes (at / 8) 0 → low ≡ get_or bytes (at / 8 + 1) 0
    → bit_and (bit_or (high * 256 % 4294967296) low / 2 ^ (16 - at % 8 - p)) (1 * 2 ^ p % 4294967296 - 1) ≡ word_at (bits bytes) at p
word_by_mask bytes at p high low eight high_fits low_fits high_is low_is =
    let whole : high * 256 % 4294967296 ≡ high * 2 ^ 8 = omega arith in
    let pair : bit_or (high * 256 % 4294967296) low ≡ get_or bytes (at / 8) 0 * 2 ^ 8 + get_or bytes (at / 8 + 1) 0 =
    ap (λ n. bit_or n low) whole ∙ or_shifted high 8 low low_fits ∙ ap (λ n. n * 2 ^ 8 + low) high_is ∙ ap (λ n. get_or bytes (at / 8) 0 * 2 ^ 8 + n) low_is in
    let mask : 1 * 2 ^ p % 4294967296 ≡ 2 ^ p = one_shl p 32 (omega arith) in
    let small : get_or bytes (at / 8 + 1) 0 < 256 = rw (← low_is) low_fits in
    rw (pair, mask) (and_mask ((get_or bytes (at / 8) 0 * 2 ^ 8 + get_or bytes (at / 8 + 1) 0) / 2 ^ (16 - at % 8 - p)) p ∙ word_of_pair bytes at p eight small)

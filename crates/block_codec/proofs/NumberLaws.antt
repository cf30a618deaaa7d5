-- Bytes as a number, and the words that are cut from it.
use Rattle.std.proofs.Common.{◌≡◌, ℕ, zero, suc, ◌+◌, ◌*◌, ◌-◌, ◌/◌, ◌%◌, ◌^◌, ◌<◌, ◌≤◌, List, [], ◌∷◌, ◌++◌, length, take, drop, get_or, map, refl, sym, ap, ◌∙◌, subst, inl, inr, arith, bit_or}
use Rattle.std.specs.Prelude.{All}
use Rattle.std.specs.List.{range_with_len}
use Rattle.std.specs.Int.{bit_at}
use Rattle.std.proofs.Math.Seq.{take-add}
use Rattle.std.proofs.Math.Nat.{pow-succ', mul-le-mul_left, pow-le-pow_right, div-mul-le_self, mul-le-mul_right}
use Rattle.std.proofs.lemmas.Nat.{pow-add, or_shifted}
use Rattle.std.proofs.lemmas.Nat.Bits.{bit_at_cat_low, bit_at_cat_high}
use Rattle.std.proofs.lemmas.List.{get_or_append_left, get_or-append-add, ext_get_or, length-take-le, take-append-drop, take_more}
use Rattle.std.proofs.lemmas.List.Elements.{All-tail, All-take, All-get_or, All-from_get_or}
use Rattle.std.proofs.lemmas.List.FromFn.{length-map-range_with_len, get_or-map-range_with_len}
use Rattle.std.proofs.lemmas.Bool.{cases_lt}
use Rattle.symbol_base.specs.Block.{number_of}
use Rattle.symbol_base.specs.Bits.{bits, byte_bits, word_at}
use Rattle.symbol_base.proofs.BlockLemmas.{number_of-lt, number_of-push}
use Rattle.symbol_base.proofs.BitsLemmas.{length-byte_bits, get_or-byte_bits, number_of_window}
use Rattle.code_spec.specs.PlainText.{word_count, file_words}
use Rattle.code_spec.proofs.FileWords.{file_words-append, word_count-behind, word_count-whole}
use Rattle.code_spec.proofs.PlainTextLaws.{length-file_words}

-- the weight of so many bytes
weight : (n : ℕ) → 256 ^ n ≡ 2 ^ (8 * n)
weight zero = refl
weight (suc n) =
    let next : 8 * suc n ≡ 8 + 8 * n = omega arith in
    pow-succ' 256 n ∙ ap (λ (k : ℕ). 256 * k) (weight n) ∙ sym (ap (λ (k : ℕ). 2 ^ k) next ∙ pow-add 2 8 (8 * n))

-- the bits of bytes are those of their number
bit_of_number : (bytes : List ℕ) (i : ℕ) → All (λ byte. byte < 256) bytes → i < 8 * length bytes → get_or (bits bytes) i 0 ≡ bit_at (number_of 256 bytes) (8 * length bytes - 1 - i)
bit_of_number [] i small h = absurd (omega arith)
bit_of_number (byte ∷ rest) i small h =
    let k = 8 * length rest in
    let low = number_of 256 rest in
    let rest_small = All-tail (λ byte. byte < 256) byte rest small in
    let fits : low < 2 ^ k = subst (λ (n : ℕ). low < n) (weight (length rest)) (number_of-lt 256 rest rest_small) in
    let number : number_of 256 (byte ∷ rest) ≡ byte * 2 ^ k + low = ap (λ (n : ℕ). byte * n + low) (weight (length rest)) in
    let there = 8 * length (byte ∷ rest) - 1 - i in
    elim (cases_lt i 8) [
      | inl first ↦ (let within : i < length (byte_bits byte) = rw length-byte_bits first in
          let place : there - k ≡ 7 - i = omega arith in
          get_or_append_left (byte_bits byte) (bits rest) 0 i within ∙ get_or-byte_bits byte i 0 first
          ∙ sym (ap (λ (n : ℕ). bit_at n there) number ∙ bit_at_cat_high byte k low there fits (omega arith) ∙ ap (bit_at byte) place))
      | inr later ↦ (let j = i - 8 in
          let split : i ≡ length (byte_bits byte) + j = rw length-byte_bits (omega arith) in
          let place : there ≡ k - 1 - j = omega arith in
          ap (λ (n : ℕ). get_or (bits (byte ∷ rest)) n 0) split ∙ get_or-append-add (byte_bits byte) (bits rest) j 0 ∙ bit_of_number rest j rest_small (omega arith)
          ∙ sym (ap (λ (n : ℕ). bit_at n there) number ∙ bit_at_cat_low byte k low there (omega arith) ∙ ap (bit_at low) place))
    ]

-- lists that agree at the first p places
same_front : (f g : ℕ → ℕ) (p : ℕ) → ((j : ℕ) → j < p → f j ≡ g j) → map f (range_with_len 0 p) ≡ map g (range_with_len 0 p)
same_front f g p same =
    let len = length-map-range_with_len f 0 p in
    ext_get_or 0 (map f (range_with_len 0 p)) (map g (range_with_len 0 p)) (len ∙ sym (length-map-range_with_len g 0 p))
    (λ j inside.
    let below : j < p = omega (arith, inside, len) in
    get_or-map-range_with_len f 0 p j j 0 below (omega arith) ∙ same j below ∙ sym (get_or-map-range_with_len g 0 p j j 0 below (omega arith)))

-- a word of bytes is cut from their number
word_of_number : (bytes : List ℕ) (at p : ℕ) → All (λ byte. byte < 256) bytes → at + p ≤ 8 * length bytes → number_of 256 bytes / 2 ^ (8 * length bytes - at - p) % 2 ^ p ≡ word_at (bits bytes) at p
unfolding word_at
word_of_number bytes at p small within =
    let n = number_of 256 bytes in
    let m = 8 * length bytes - at in
    let seen : (j : ℕ) → j < p → get_or (bits bytes) (at + j) 0 ≡ bit_at n (m - 1 - j) =
    λ j below. bit_of_number bytes (at + j) small (omega arith) ∙ ap (bit_at n) (omega arith) in
    sym (ap (number_of 2) (same_front (λ j. get_or (bits bytes) (at + j) 0) (λ j. bit_at n (m - 1 - j)) p seen) ∙ number_of_window n m p (omega arith))

-- the word at place k of the eight of p bytes
pub word_of_group : (p k : ℕ) (group : List ℕ) → k < 8 → length group ≡ p → All (λ byte. byte < 256) group
    → number_of 256 group / 2 ^ (p * (7 - k)) % 2 ^ p ≡ word_at (bits group) (p * k) p
word_of_group p k group inside len small =
    let sum : 8 ≡ 7 - k + k + 1 = omega (arith, inside) in
    let split : p * (7 - k + k + 1) ≡ p * (7 - k) + p * k + p = grind arith in
    let all : p * 8 ≡ p * (7 - k) + p * k + p = ap (λ (n : ℕ). p * n) sum ∙ split in
    let behind : p * (7 - k) ≡ 8 * length group - p * k - p = omega (arith, all, len) in
    ap (λ (n : ℕ). number_of 256 group / 2 ^ n % 2 ^ p) behind ∙ word_of_number group (p * k) p small (omega (arith, all, len))

-- bytes are below 256
pub bytes_small : (bytes : List ℕ) → ((i : ℕ) → get_or bytes i 0 < 256) → All (λ byte. byte < 256) bytes
bytes_small bytes small = All-from_get_or (λ byte. byte < 256) bytes 0 (λ i inside. small i)

-- one byte more
pub number_more : (bytes : List ℕ) (i value byte : ℕ) → All (λ b. b < 256) bytes → i < length bytes → length bytes ≤ 8 → value ≡ number_of 256 (take i bytes) → byte ≡ get_or bytes i 0
    → bit_or (value * 256 % 18446744073709551616) byte ≡ number_of 256 (take (i + 1) bytes)
number_more bytes i value byte small inside short so_far same =
    let front = take i bytes in
    let len : length front ≡ i = length-take-le i bytes (omega (arith, inside)) in
    let below : number_of 256 front < 256 ^ length front = number_of-lt 256 front (All-take (λ b. b < 256) i bytes small) in
    let seven : length front ≤ 7 = omega (arith, len, inside, short) in
    let most : 256 ^ length front ≤ 256 ^ 7 = pow-le-pow_right {n = 256} (omega arith) seven in
    let whole : value * 256 % 18446744073709551616 ≡ value * 2 ^ 8 = omega (arith, below, most, so_far) in
    let fits : byte < 256 = rw same (All-get_or (λ b. b < 256) bytes i 0 inside small) in
    ap (λ (n : ℕ). bit_or n byte) whole ∙ or_shifted value 8 byte fits ∙ ap (λ (n : ℕ). n * 256 + byte) so_far ∙ ap (λ (n : ℕ). number_of 256 front * 256 + n) same
    ∙ sym (ap (number_of 256) (take_more bytes i 0 inside) ∙ number_of-push 256 front (get_or bytes i 0))

-- p bytes are eight words
pub words_of_group : (p len : ℕ) → 0 < p → len ≡ p → word_count p (8 * len) ≡ 8
words_of_group p len some same =
    let turned : 8 * len ≡ p * 8 = omega (arith, same) in
    ap (λ (n : ℕ). word_count p n) turned ∙ word_count-whole p 8 some

-- each whole group of p bytes is within the bytes
pub group_within : (p len g : ℕ) → g < len / p → p * g + p ≤ len
group_within p len g inside =
    let low : len / p * p ≤ len = div-mul-le_self len p in
    let less : (g + 1) * p ≤ len / p * p = mul-le-mul_right p (omega (arith, inside)) in
    let same : (g + 1) * p ≡ p * g + p = grind arith in
    omega (arith, low, less, same)

-- and all of them together
pub groups_within : (p len : ℕ) → p * (len / p) ≤ len
groups_within p len =
    let same : p * (len / p) ≡ len / p * p = grind arith in
    omega (arith, same, div-mul-le_self len p)

-- the words of g groups of p bytes are 8 g
pub groups_filled : (p g : ℕ) (bytes : List ℕ) → p * g ≤ length bytes → 8 * length (take (p * g) bytes) ≡ p * (8 * g)
groups_filled p g bytes within =
    let len = length-take-le (p * g) bytes within in
    let same : 8 * (p * g) ≡ p * (8 * g) = grind arith in
    ap (λ (n : ℕ). 8 * n) len ∙ same

-- one group more
pub group_more : (p g : ℕ) (bytes : List ℕ) → 0 < p → p * g + p ≤ length bytes
    → file_words p (take (p * g) bytes) ++ file_words p (take p (drop (p * g) bytes)) ≡ file_words p (take (p * (g + 1)) bytes)
group_more p g bytes some within =
    let filled = groups_filled p g bytes (omega (arith, within)) in
    let next : p * (g + 1) ≡ p * g + p = grind arith in
    sym (file_words-append p (8 * g) (take (p * g) bytes) (take p (drop (p * g) bytes)) some filled)
    ∙ ap (λ (bs : List ℕ). file_words p bs) (sym (take-add (p * g) p bytes) ∙ ap (λ (n : ℕ). take n bytes) (sym next))

-- the groups, and the bytes behind them
pub groups_and_rest : (p g : ℕ) (bytes : List ℕ) → 0 < p → p * g ≤ length bytes
    → file_words p (take (p * g) bytes) ++ file_words p (drop (p * g) bytes) ≡ file_words p bytes
groups_and_rest p g bytes some within =
    sym (file_words-append p (8 * g) (take (p * g) bytes) (drop (p * g) bytes) some (groups_filled p g bytes within))
    ∙ ap (λ (bs : List ℕ). file_words p bs) (take-append-drop (p * g) bytes)

-- the words of so many bytes are those of the groups and those of the rest
pub words_counted : (p len g : ℕ) → 0 < p → p * g ≤ len → word_count p (8 * len) ≡ 8 * g + word_count p (8 * (len - p * g))
words_counted p len g some within =
    let same : p * (8 * g) ≡ 8 * (p * g) = grind arith in
    let split : 8 * len ≡ p * (8 * g) + 8 * (len - p * g) = omega (arith, same, within) in
    ap (λ (n : ℕ). word_count p n) split ∙ word_count-behind p (8 * g) (8 * (len - p * g)) some

-- the words of g groups, counted
pub length-words_of_groups : (p g : ℕ) (bytes : List ℕ) → 0 < p → p * g ≤ length bytes → length (file_words p (take (p * g) bytes)) ≡ 8 * g
length-words_of_groups p g bytes some within =
    length-file_words p (take (p * g) bytes) ∙ ap (λ (n : ℕ). word_count p n) (groups_filled p g bytes within) ∙ word_count-whole p (8 * g) some

-- there is room for the digits of a group behind those of the groups before it
pub room_for_group : (q p len g room : ℕ) → 0 < p → g < len / p → q * word_count p (8 * len) + 32 ≤ room → 8 * q * g + q * 8 + 32 ≤ room
room_for_group q p len g room some inside fits =
    let next : p * (g + 1) ≡ p * g + p = grind arith in
    let counted = words_counted p len (g + 1) some (omega (arith, next, group_within p len g inside)) in
    let less : q * (8 * (g + 1)) ≤ q * word_count p (8 * len) = mul-le-mul_left q (omega (arith, counted)) in
    let same : q * (8 * (g + 1)) ≡ 8 * q * g + q * 8 = grind arith in
    omega (arith, less, same, fits)

-- and for those of the rest behind all groups
pub room_for_rest : (q p len room : ℕ) → 0 < p → q * word_count p (8 * len) + 32 ≤ room → 8 * q * (len / p) + q * word_count p (8 * (len - p * (len / p))) + 32 ≤ room
room_for_rest q p len room some fits =
    let g = len / p in
    let rest = word_count p (8 * (len - p * g)) in
    let counted = words_counted p len g some (groups_within p len) in
    let all : q * word_count p (8 * len) ≡ q * (8 * g + rest) = ap (λ (n : ℕ). q * n) counted in
    let same : q * (8 * g + rest) ≡ 8 * q * g + q * rest = grind arith in
    omega (arith, all, same, fits)

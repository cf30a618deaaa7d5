-- The data words of a file, part by part.
use Rattle.std.proofs.Common.{◌≡◌, ℕ, ◌+◌, ◌*◌, ◌-◌, ◌/◌, ◌<◌, ◌≤◌, List, ◌++◌, length, get_or, map, sym, ap, ◌∙◌, inl, inr, arith}
use Rattle.std.specs.List.{range_with_len}
use Rattle.std.proofs.Math.Nat.{mul-add-div, div-eq_of_lt, mul-le-mul_left}
use Rattle.std.proofs.lemmas.List.{length-append, get_or_append_left, get_or-append_right, get_or-append-add, ext_get_or}
use Rattle.std.proofs.lemmas.List.Concat.{flat_map-append}
use Rattle.std.proofs.lemmas.List.FromFn.{length-map-range_with_len, get_or-map-range_with_len}
use Rattle.std.proofs.lemmas.Bool.{cases_lt}
use Rattle.symbol_base.specs.Block.{number_of}
use Rattle.symbol_base.specs.Bits.{bits, byte_bits, word_at}
use Rattle.symbol_base.proofs.BitsLemmas.{length-bits}
use Rattle.code_spec.specs.PlainText.{word_count, file_words}
use Rattle.code_spec.proofs.PlainTextLaws.{length-file_words}

-- the same p bits are one word, wherever they stand
pub word_at-same : (xs ys : List ℕ) (here there p : ℕ) → ((j : ℕ) → j < p → get_or xs (here + j) 0 ≡ get_or ys (there + j) 0) → word_at xs here p ≡ word_at ys there p
unfolding word_at
word_at-same xs ys here there p same =
    let f : ℕ → ℕ = λ j. get_or xs (here + j) 0 in
    let g : ℕ → ℕ = λ j. get_or ys (there + j) 0 in
    let len = length-map-range_with_len f 0 p in
    ap (number_of 2)
    (ext_get_or 0 (map f (range_with_len 0 p)) (map g (range_with_len 0 p)) (len ∙ sym (length-map-range_with_len g 0 p))
    (λ j inside.
    let below : j < p = omega (arith, inside, len) in
    get_or-map-range_with_len f 0 p j j 0 below (omega arith) ∙ same j below ∙ sym (get_or-map-range_with_len g 0 p j j 0 below (omega arith))))

-- a word that ends within the first of two lists
pub word_at-left : (xs ys : List ℕ) (at p : ℕ) → at + p ≤ length xs → word_at (xs ++ ys) at p ≡ word_at xs at p
word_at-left xs ys at p within = word_at-same (xs ++ ys) xs at at p (λ j below. get_or_append_left xs ys 0 (at + j) (omega (arith, within)))

-- a word that begins within the second
pub word_at-right : (xs ys : List ℕ) (at p : ℕ) → word_at (xs ++ ys) (length xs + at) p ≡ word_at ys at p
word_at-right xs ys at p =
    word_at-same (xs ++ ys) ys (length xs + at) at p
    (λ j below.
    let place : length xs + at + j ≡ length xs + (at + j) = omega arith in
    ap (λ (n : ℕ). get_or (xs ++ ys) n 0) place ∙ get_or-append-add xs ys (at + j) 0)

-- k whole words, and the words of what stands behind them
pub word_count-behind : (p k n : ℕ) → 0 < p → word_count p (p * k + n) ≡ k + word_count p n
word_count-behind p k n some =
    let regroup : p * k + n + (p - 1) ≡ p * k + (n + (p - 1)) = omega arith in
    ap (λ (m : ℕ). m / p) regroup ∙ mul-add-div some k (n + (p - 1))

-- k whole words are k words
pub word_count-whole : (p k : ℕ) → 0 < p → word_count p (p * k) ≡ k
word_count-whole p k some =
    let none : word_count p 0 ≡ 0 = div-eq_of_lt (omega (arith, some)) in
    let same : p * k ≡ p * k + 0 = omega arith in
    ap (λ (n : ℕ). word_count p n) same ∙ word_count-behind p k 0 some ∙ omega (arith, none)

-- the place of a word behind k words
later_place : (p k j len : ℕ) → k ≤ j → len ≡ p * k → p * j ≡ len + p * (j - k)
later_place p k j len behind same =
    let sum : j ≡ k + (j - k) = omega (arith, behind) in
    let parts : p * (k + (j - k)) ≡ p * k + p * (j - k) = grind arith in
    ap (λ (n : ℕ). p * n) sum ∙ parts ∙ ap (λ (n : ℕ). n + p * (j - k)) (sym same)

-- the word of a file at a place
word_of_file : (p : ℕ) (file : List ℕ) (j : ℕ) → j < word_count p (8 * length file) → get_or (file_words p file) j 0 ≡ word_at (bits file) (p * j) p
word_of_file p file j inside =
    get_or-map-range_with_len (λ j. word_at (bits file) (p * j) p) 0 (word_count p (8 * length file)) j j 0 inside (omega arith)

-- bytes that end where a word ends are followed by the words of what stands behind them
pub file_words-append : (p k : ℕ) (xs ys : List ℕ) → 0 < p → 8 * length xs ≡ p * k → file_words p (xs ++ ys) ≡ file_words p xs ++ file_words p ys
file_words-append p k xs ys some filled =
    let both = bits xs ++ bits ys in
    let split : bits (xs ++ ys) ≡ both = flat_map-append byte_bits xs ys in
    let first : word_count p (8 * length xs) ≡ k = ap (λ (n : ℕ). word_count p n) filled ∙ word_count-whole p k some in
    let second = word_count p (8 * length ys) in
    let total : 8 * length (xs ++ ys) ≡ p * k + 8 * length ys = omega (arith, filled, length-append xs ys) in
    let count : word_count p (8 * length (xs ++ ys)) ≡ k + second = ap (λ (n : ℕ). word_count p n) total ∙ word_count-behind p k (8 * length ys) some in
    let first_len : length (file_words p xs) ≡ k = length-file_words p xs ∙ first in
    let len : length (file_words p (xs ++ ys)) ≡ k + second = length-file_words p (xs ++ ys) ∙ count in
    let parts_len : length (file_words p xs ++ file_words p ys) ≡ k + second = length-append (file_words p xs) (file_words p ys) ∙ omega (arith, first_len, length-file_words p ys) in
    let bits_len : length (bits xs) ≡ p * k = length-bits xs ∙ filled in
    ext_get_or 0 (file_words p (xs ++ ys)) (file_words p xs ++ file_words p ys) (len ∙ sym parts_len)
    (λ j inside.
    let below : j < k + second = omega (arith, inside, len) in
    let here : get_or (file_words p (xs ++ ys)) j 0 ≡ word_at both (p * j) p =
    word_of_file p (xs ++ ys) j (omega (arith, below, count)) ∙ ap (λ (bs : List ℕ). word_at bs (p * j) p) split in
    elim (cases_lt j k) [
      | inl before ↦ (let next : p * (j + 1) ≤ p * k = mul-le-mul_left p (omega arith) in
          here ∙ word_at-left (bits xs) (bits ys) (p * j) p (omega (arith, next, bits_len))
          ∙ sym (get_or_append_left (file_words p xs) (file_words p ys) 0 j (omega (arith, before, first_len)) ∙ word_of_file p xs j (omega (arith, before, first))))
      | inr behind ↦ (here ∙ ap (λ (n : ℕ). word_at both n p) (later_place p k j (length (bits xs)) behind bits_len) ∙ word_at-right (bits xs) (bits ys) (p * (j - k)) p
          ∙ sym (get_or-append_right (file_words p xs) (file_words p ys) k j 0 first_len behind ∙ word_of_file p ys (j - k) (omega (arith, behind, below))))
    ])

-- The plain text of a file is read back to the file.
use Rattle.std.proofs.Common.{◌≡◌, ℕ, zero, suc, ◌+◌, ◌-◌, ◌*◌, ◌/◌, ◌%◌, ◌<◌, ◌≤◌, ◌^◌, List, [], ◌∷◌, ◌++◌, length, map, get_or, refl, sym, ap, ap₂, ◌∙◌, subst, arith, inl, inr}
use Rattle.std.specs.Prelude.{All, Ok, not, false, cond, ◌||◌}
use Rattle.std.specs.List.{range_with_len}
use Rattle.std.proofs.Math.Nat.{mod-eq_of_lt, div-add-mod, mod-lt, mul-add-mod_self_left, mul-suc}
use Rattle.std.proofs.lemmas.Bool.{cases_lt, ne_eqb}
use Rattle.std.proofs.lemmas.Nat.Bits.{bit_at-lt}
use Rattle.std.proofs.lemmas.List.{append-nil, length-append, ext_get_or, get_or_append_left, get_or-append_right}
use Rattle.std.proofs.lemmas.List.Concat.{flat_map-append}
use Rattle.std.proofs.lemmas.List.Elements.{All-nil, All-head, All-tail, All-append, All-map, All-from_recursion, recursion_from_All, filter-append}
use Rattle.std.proofs.lemmas.List.FromFn.{length-map-range_with_len, get_or-map-range_with_len, map-range_with_len_more}
use Rattle.symbol_base.specs.declared.Block.{Block}
use Rattle.symbol_base.specs.Block.{number_of, symbols_of}
use Rattle.symbol_base.specs.Bits.{bits, word_at}
use Rattle.symbol_base.proofs.BlockLemmas.{symbols_of-number_of, IsOver-symbols_of}
use Rattle.symbol_base.proofs.BitsLemmas.{length-bits, get_or-bits}
use Rattle.code_spec.specs.Code.{CodeData, IsCode, IsState, IsDataWord, IsDataWords}
use Rattle.code_spec.specs.Checked.{IsCheckedCode}
use Rattle.code_spec.specs.Output.{row_at, output, flat, state_after}
use Rattle.code_spec.specs.Decoder.{AreDecoded, inner_words}
use Rattle.code_spec.specs.PlainText.{word_count, file_words, data_words, plain_symbols, plain_text}
use Rattle.code_spec.specs.PlainReading.{is_blank, marks_in, IsDigit, IsChannelText, symbols_in, IsBlock, word_bits, AreBytesOf, ReadsText, reads}
use Rattle.code_spec.proofs.DataWords.{data_words_below}
use Rattle.code_spec.proofs.OutputLaws.{row_in_range}
use Rattle.code_spec.proofs.PlainTextLaws.{length-plain_symbols}
use Rattle.code_spec.proofs.DecoderLaws.{decoded_by_walk, decoded_data_words}

-- ---- the marks of a text are its digits

pub not_blank : (byte : ℕ) → 48 ≤ byte → is_blank byte ≡ false
not_blank byte least =
    ap₂ (λ a b. a || b)
    (ap₂ (λ a b. a || b) (ne_eqb byte 10 (λ e. omega (arith, e, least))) (ne_eqb byte 13 (λ e. omega (arith, e, least))))
    (ne_eqb byte 32 (λ e. omega (arith, e, least)))

marks_of_digits : (symbols : List ℕ) → marks_in (map (λ symbol. 48 + symbol) symbols) ≡ map (λ symbol. 48 + symbol) symbols
marks_of_digits [] = refl
marks_of_digits (symbol ∷ symbols) =
    let digits = map (λ s. 48 + s) symbols in
    ap (λ blank. cond (not blank) ((48 + symbol) ∷ marks_in digits) (marks_in digits)) (not_blank (48 + symbol) (omega arith))
    ∙ ap (λ (list : List ℕ). (48 + symbol) ∷ list) (marks_of_digits symbols)

marks_of_text : (c : CodeData) (file : List ℕ) → marks_in (plain_text c file) ≡ map (λ symbol. 48 + symbol) (plain_symbols c file)
marks_of_text c file =
    let digits = map (λ symbol. 48 + symbol) (plain_symbols c file) in
    filter-append (λ byte. not (is_blank byte)) digits (10 ∷ [])
    ∙ append-nil (marks_in digits)
    ∙ marks_of_digits (plain_symbols c file)

symbols_again : (symbols : List ℕ) → map (λ byte. byte - 48) (map (λ symbol. 48 + symbol) symbols) ≡ symbols
symbols_again [] = refl
symbols_again (symbol ∷ symbols) =
    let same : 48 + symbol - 48 ≡ symbol = omega arith in
    ap₂ (λ first list. first ∷ list) same (symbols_again symbols)

-- ---- what a code writes are blocks, and their symbols are over the alphabet

blocks_below : (c : CodeData) (state : ℕ) (words : List ℕ) → IsCode c → IsState c state → IsDataWords c words → All (IsBlock c) (output c state words)
blocks_below c state [] code inside below = All-nil (IsBlock c)
blocks_below c state (word ∷ words) code inside below =
    let row = row_in_range c state word code inside (All-head (IsDataWord c) word words below) in
    let rest = blocks_below c (row_at c.rows state word).to words code row.1 (All-tail (IsDataWord c) word words below) in
    All-from_recursion (IsBlock c) (output c state (word ∷ words)) (row.0, recursion_from_All (IsBlock c) (output c (row_at c.rows state word).to words) rest)

flat_below : (c : CodeData) (blocks : List Block) → 0 < c.constraint.alphabet → All (λ symbol. symbol < c.constraint.alphabet) (flat c blocks)
flat_below c [] some = All-nil (λ symbol. symbol < c.constraint.alphabet)
flat_below c (block ∷ blocks) some =
    All-append (λ symbol. symbol < c.constraint.alphabet) (symbols_of c.constraint.alphabet c.q block.value) (flat c blocks)
    (IsOver-symbols_of c.constraint.alphabet c.q block.value some) (flat_below c blocks some)

digits_below : (c : CodeData) (symbols : List ℕ) → All (λ symbol. symbol < c.constraint.alphabet) symbols → All (IsDigit c) (map (λ symbol. 48 + symbol) symbols)
digits_below c symbols below =
    All-map (IsDigit c) (λ symbol. 48 + symbol) symbols
    (λ k d inside. record { least = omega arith; below = omega (arith, below k d inside) })

-- ---- the bits of a file's words are its bits, and 0s

-- numbers in two parts
range_more : (f : ℕ → ℕ) (a b : ℕ) → map f (range_with_len 0 (a + b)) ≡ map f (range_with_len 0 a) ++ map (λ j. f (a + j)) (range_with_len 0 b)
range_more f a b =
    let whole = map f (range_with_len 0 (a + b)) in
    let first = map f (range_with_len 0 a) in
    let second = map (λ j. f (a + j)) (range_with_len 0 b) in
    let first_len = length-map-range_with_len f 0 a in
    let second_len = length-map-range_with_len (λ j. f (a + j)) 0 b in
    let len = length-map-range_with_len f 0 (a + b) in
    ext_get_or 0 whole (first ++ second) (omega (arith, len, first_len, second_len, length-append first second))
    (λ i inside.
    elim (cases_lt i a) [
      | inl before ↦
          get_or-map-range_with_len f 0 (a + b) i i 0 (omega (arith, before)) (omega arith)
          ∙ sym (get_or_append_left first second 0 i (omega (arith, before, first_len)) ∙ get_or-map-range_with_len f 0 a i i 0 before (omega arith))
      | inr behind ↦ (
          let place : a + (i - a) ≡ i = omega (arith, behind) in
          get_or-map-range_with_len f 0 (a + b) i i 0 (omega (arith, inside, len)) (omega arith)
          ∙ sym (
          get_or-append_right first second a i 0 first_len behind
          ∙ get_or-map-range_with_len (λ j. f (a + j)) 0 b (i - a) (i - a) 0 (omega (arith, behind, inside, len)) (omega arith)
          ∙ ap f place))
    ])

-- the symbols of p bits as a number are those bits
bits_of_word : (list : List ℕ) (at p : ℕ) → ((i : ℕ) → get_or list i 0 < 2)
    → symbols_of 2 p (word_at list at p) ≡ map (λ j. get_or list (at + j) 0) (range_with_len 0 p)
unfolding word_at
bits_of_word list at p small =
    let word : List ℕ = map (λ j. get_or list (at + j) 0) (range_with_len 0 p) in
    let len = length-map-range_with_len (λ j. get_or list (at + j) 0) 0 p in
    ap (λ n. symbols_of 2 n (number_of 2 word)) (sym len)
    ∙ symbols_of-number_of 2 word (omega arith)
    (All-map (λ s. s < 2) (λ j. get_or list (at + j) 0) (range_with_len 0 p) (λ k d inside. small (at + get_or (range_with_len 0 p) k d)))

bits_of_words : (list : List ℕ) (p n : ℕ) → ((i : ℕ) → get_or list i 0 < 2)
    → word_bits p (map (λ j. word_at list (p * j) p) (range_with_len 0 n)) ≡ map (λ i. get_or list i 0) (range_with_len 0 (p * n))
bits_of_words list p zero small =
    let none : 0 ≡ p * zero = omega arith in
    ap (λ n. map (λ i. get_or list i 0) (range_with_len 0 n)) none
bits_of_words list p (suc n) small =
    let word : ℕ → ℕ = λ j. word_at list (p * j) p in
    let bit : ℕ → ℕ = λ i. get_or list i 0 in
    let next : suc n ≡ n + 1 = omega arith in
    let more : p * n + p ≡ p * suc n = omega (arith, mul-suc p n) in
    ap (λ k. word_bits p (map word (range_with_len 0 k))) next
    ∙ ap (λ (words : List ℕ). word_bits p words) (map-range_with_len_more word 0 n n (omega arith))
    ∙ flat_map-append (symbols_of 2 p) (map word (range_with_len 0 n)) (word n ∷ [])
    ∙ ap₂ (λ (front back : List ℕ). front ++ back) (bits_of_words list p n small) (append-nil (symbols_of 2 p (word n)) ∙ bits_of_word list (p * n) p small)
    ∙ sym (range_more bit (p * n) p)
    ∙ ap (λ k. map bit (range_with_len 0 k)) more

-- a list is the list of what stands at its places
by_places : (list : List ℕ) → map (λ i. get_or list i 0) (range_with_len 0 (length list)) ≡ list
by_places list =
    let bit : ℕ → ℕ = λ i. get_or list i 0 in
    let len = length-map-range_with_len bit 0 (length list) in
    ext_get_or 0 (map bit (range_with_len 0 (length list))) list len
    (λ i inside. get_or-map-range_with_len bit 0 (length list) i i 0 (omega (arith, inside, len)) (omega arith))

bit_small : (file : List ℕ) (i : ℕ) → get_or (bits file) i 0 < 2
bit_small file i = subst (λ n. n < 2) (sym (get_or-bits file i)) (bit_at-lt (get_or file (i / 8) 0) (7 - i % 8))

-- how many bits are padded
pub record IsPad (p bytes pad : ℕ) : Type 0 where
  pub filled : p * word_count p (8 * bytes) ≡ 8 * bytes + pad
  pub part : pad < p

pub padding : (p bytes : ℕ) → 0 < p → IsPad p bytes (p * word_count p (8 * bytes) - 8 * bytes)
padding p bytes some =
    let most = 8 * bytes + (p - 1) in
    let parts : p * (most / p) + most % p ≡ most = div-add-mod most p in
    let short : most % p < p = mod-lt most some in
    record { filled = omega (arith, parts, short, some); part = omega (arith, parts, short, some) }

file_filled : (p : ℕ) (file : List ℕ) → 0 < p → p ≤ 8 → All (λ byte. byte < 2 ^ 8) file
    → AreBytesOf p (file_words p file) file (map (λ j. get_or (bits file) (length (bits file) + j) 0) (range_with_len 0 (p * word_count p (8 * length file) - 8 * length file)))
file_filled p file some small below =
    let count = word_count p (8 * length file) in
    let pad = p * count - 8 * length file in
    let is = padding p (length file) some in
    let list = bits file in
    let len : p * count ≡ length list + pad = omega (arith, is.filled, length-bits file) in
    record {
      all =
          bits_of_words list p count (bit_small file)
          ∙ ap (λ n. map (λ i. get_or list i 0) (range_with_len 0 n)) len
          ∙ range_more (λ i. get_or list i 0) (length list) pad
          ∙ ap (λ (front : List ℕ). front ++ map (λ j. get_or list (length list + j) 0) (range_with_len 0 pad)) (by_places list);
      below = below;
      part = omega (arith, length-map-range_with_len (λ j. get_or list (length list + j) 0) 0 pad, is.part, small);
    }

-- ---- the reading

pub read_back : (c : CodeData) (file text : List ℕ) → IsCheckedCode c → All (λ byte. byte < 2 ^ 8) file
    → marks_in text ≡ marks_in (plain_text c file) → ReadsText c text (Ok file)
read_back c file text checked small same =
    let code = checked.code in
    let symbols = plain_symbols c file in
    let some : 0 < c.constraint.alphabet = omega (arith, code.alphabet) in
    let start : IsState c 0 = omega (arith, code.states.0) in
    let words = data_words c file in
    let blocks = output c 0 words in
    let below = data_words_below c file in
    let marks : marks_in text ≡ map (λ symbol. 48 + symbol) symbols = same ∙ marks_of_text c file in
    let clean : IsChannelText c text =
    subst (λ (list : List ℕ). All (IsDigit c) list) (sym marks) (digits_below c symbols (flat_below c blocks some)) in
    let is : symbols_in text ≡ symbols = ap (λ (list : List ℕ). map (λ byte. byte - 48) list) marks ∙ symbols_again symbols in
    let count = word_count c.p (8 * length file) in
    let order : c.past + count + c.ahead ≡ c.past + c.ahead + count = omega arith in
    let whole : length (symbols_in text) ≡ c.q * (c.past + c.ahead + count) =
    ap (λ (list : List ℕ). length list) is ∙ length-plain_symbols c file ∙ ap (λ n. c.q * n) order in
    let pad = padding c.p (length file) (omega (arith, code.p.0)) in
    let rest = c.p * count - 8 * length file in
    let turned : count * c.p ≡ 8 * length file + rest = grind (arith, pad.filled) in
    let left : count * c.p % 8 ≡ rest =
    ap (λ n. n % 8) turned ∙ mul-add-mod_self_left 8 (length file) rest ∙ mod-eq_of_lt (omega (arith, pad.part, code.p.1)) in
    let decoded = decoded_by_walk c 0 (state_after c.rows 0 words) words blocks code start (record { below = below; writes = refl; leads = refl }) in
    let found = decoded_data_words c file (inner_words c words) checked decoded in
    reads clean count whole (omega (arith, left, pad.part)) file
    (record {
      blocks = blocks;
      rest_symbols = [];
      cut = record { all = is ∙ sym (append-nil (flat c blocks)); below = blocks_below c 0 words code start below; part = omega (arith, code.p.0, code.q.0) };
      words = file_words c.p file;
      decoded = subst (λ (list : List ℕ). AreDecoded c blocks list) found decoded;
      rest_bits = map (λ j. get_or (bits file) (length (bits file) + j) 0) (range_with_len 0 rest);
      filled = file_filled c.p file (omega (arith, code.p.0)) code.p.1 small;
    })

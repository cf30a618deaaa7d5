-- What is encoded of a file are data words.
use Rattle.std.proofs.Common.{ℕ, ◌+◌, ◌-◌, ◌*◌, ◌/◌, ◌%◌, ◌<◌, ◌^◌, ◌++◌, List, length, map, get_or, replicate, sym, subst, arith}
use Rattle.std.specs.List.{range_with_len}
use Rattle.std.proofs.lemmas.Nat.Bits.{bit_at-lt}
use Rattle.std.proofs.lemmas.List.Elements.{All-append, All-map, All-replicate}
use Rattle.std.proofs.lemmas.List.FromFn.{length-map-range_with_len}
use Rattle.symbol_base.specs.Bits.{bits, word_at}
use Rattle.symbol_base.proofs.BitsLemmas.{get_or-bits}
use Rattle.symbol_base.proofs.BlockLemmas.{number_of-lt, power_positive}
use Rattle.code_spec.specs.Code.{CodeData, IsDataWord, IsDataWords}
use Rattle.code_spec.specs.PlainText.{word_count, file_words, data_words}

-- p bits make a number below 2^p
word_at-lt : (bytes : List ℕ) (at p : ℕ) → word_at (bits bytes) at p < 2 ^ p
unfolding word_at
word_at-lt bytes at p =
    let digit : ℕ → ℕ = λ place. get_or (bits bytes) (at + place) 0 in
    let small : (place : ℕ) → digit place < 2 = λ place.
    subst (λ n. n < 2) (sym (get_or-bits bytes (at + place)))
    (bit_at-lt (get_or bytes ((at + place) / 8) 0) (7 - (at + place) % 8)) in
    subst (λ n. word_at (bits bytes) at p < 2 ^ n) (length-map-range_with_len digit 0 p)
    (number_of-lt 2 (map digit (range_with_len 0 p))
    (All-map (λ s. s < 2) digit (range_with_len 0 p) (λ k d inside. small (get_or (range_with_len 0 p) k d))))

-- lead-in, file and lead-out are data words
pub data_words_below : (c : CodeData) (file : List ℕ) → IsDataWords c (data_words c file)
data_words_below c file =
    let word : ℕ → ℕ = λ j. word_at (bits file) (c.p * j) c.p in
    let places = range_with_len 0 (word_count c.p (8 * length file)) in
    let none : 0 < 2 ^ c.p = power_positive 2 c.p (omega arith) in
    let words : IsDataWords c (file_words c.p file) =
    All-map (IsDataWord c) word places (λ k d inside. word_at-lt file (c.p * get_or places k d) c.p) in
    All-append (IsDataWord c) (replicate c.past 0 ++ file_words c.p file) (replicate c.ahead 0)
    (All-append (IsDataWord c) (replicate c.past 0) (file_words c.p file) (All-replicate (IsDataWord c) c.past 0 none) words)
    (All-replicate (IsDataWord c) c.ahead 0 none)

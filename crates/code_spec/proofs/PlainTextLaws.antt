-- How long plain text is.
use Rattle.std.proofs.Common.{◌≡◌, ℕ, ◌+◌, ◌*◌, List, [], ◌∷◌, ◌++◌, length, map, replicate, ap, ◌∙◌, arith}
use Rattle.std.proofs.lemmas.List.{length-append, length-map, length-replicate}
use Rattle.std.proofs.lemmas.List.FromFn.{length-map-range_with_len}
use Rattle.symbol_base.specs.Bits.{bits, word_at}
use Rattle.code_spec.specs.Code.{CodeData}
use Rattle.code_spec.specs.Output.{output}
use Rattle.code_spec.specs.PlainText.{word_count, file_words, data_words, plain_symbols, plain_text, plain_length}
use Rattle.code_spec.proofs.OutputLaws.{length-flat, length-output_from}

pub length-file_words : (p : ℕ) (file : List ℕ) → length (file_words p file) ≡ word_count p (8 * length file)
length-file_words p file = length-map-range_with_len (λ j. word_at (bits file) (p * j) p) 0 (word_count p (8 * length file))

pub length-data_words : (c : CodeData) (file : List ℕ) → length (data_words c file) ≡ c.past + word_count c.p (8 * length file) + c.ahead
length-data_words c file =
    omega (
      arith,
      length-append (replicate c.past 0 ++ file_words c.p file) (replicate c.ahead 0),
      length-append (replicate c.past 0) (file_words c.p file),
      length-replicate {A = ℕ} c.past 0,
      length-replicate {A = ℕ} c.ahead 0,
      length-file_words c.p file,
    )

pub length-plain_symbols : (c : CodeData) (file : List ℕ) → length (plain_symbols c file) ≡ c.q * (c.past + word_count c.p (8 * length file) + c.ahead)
length-plain_symbols c file = length-flat c (output c 0 (data_words c file)) ∙ ap (λ n. c.q * n) (length-output_from c.rows 0 (data_words c file) ∙ length-data_words c file)

pub length-plain_text : (c : CodeData) (file : List ℕ) → length (plain_text c file) ≡ plain_length c (length file)
length-plain_text c file =
    omega (arith, length-append (map (λ symbol. 48 + symbol) (plain_symbols c file)) (10 ∷ []), length-map (plain_symbols c file) (λ symbol. 48 + symbol), length-plain_symbols c file)

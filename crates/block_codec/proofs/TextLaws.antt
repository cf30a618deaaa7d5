-- A piece more of a text, and its end.
use Rattle.std.proofs.Common.{◌≡◌, ℕ, ◌+◌, ◌-◌, ◌*◌, ◌/◌, ◌%◌, ◌<◌, ◌≤◌, ◌^◌, Option, Some, None, List, [], ◌∷◌, ◌++◌, length, take, drop, get_or, refl, sym, ap, ap₂, ◌∙◌, subst, arith}
use Rattle.std.specs.Prelude.{All, Ok, Err, not, min}
use Rattle.std.proofs.Math.Seq.{take-append-add, drop-append_seam}
use Rattle.std.proofs.Math.Nat.{div-add-mod, mul-add-div, mul-le-mul_left, div-le_self, mul-suc, div-eq_of_lt}
use Rattle.std.proofs.lemmas.List.{length-append, get_or-append-add}
use Rattle.std.proofs.lemmas.List.Elements.{All-append, filter-append}
use Rattle.symbol_base.specs.Block.{symbols_of}
use Rattle.symbol_base.specs.Bits.{bits}
use Rattle.symbol_base.proofs.BlockLemmas.{length-symbols_of}
use Rattle.symbol_base.proofs.BitsLemmas.{length-bits}
use Rattle.code_spec.specs.declared.fault.EndFault.{EndFault}
use Rattle.code_spec.specs.declared.fault.EndFault.TheVariants.{PartBlock, TooShort, PartByte}
use Rattle.code_spec.specs.Code.{CodeData, IsCode}
use Rattle.code_spec.specs.Checked.{IsCheckedCode}
use Rattle.code_spec.specs.Output.{flat}
use Rattle.code_spec.specs.PlainReading.{is_blank, marks_in, IsDigit, IsChannelText, symbols_in, IsBadAt, word_bits, IsPlainFront, bad_symbol, part_block, too_short, part_byte, reads}
use Rattle.code_spec.proofs.OutputLaws.{length-flat}
use Rattle.code_spec.proofs.ReadingLaws.{front_one}
use Rattle.block_codec.specs.declared.reader.Reader.{Reader}
use Rattle.block_codec.specs.declared.text_decoder.TextDecoder.{TextDecoder}
use Rattle.block_codec.specs.inside.Readers.{HasText, GoesOn, StopsAt}
use Rattle.block_codec.specs.TextDecoding.{IsTextDecoderFor, TextHasCome, HasReadTo, TakesText, took, bad_here, bad_before, EndsText, ended, refused_at_end}
use Rattle.block_codec.specs.declared.fault.TextFault.TheVariants.{BadSymbol}

-- ---- pieces

-- what a text has given is what it gives that may go on
pub front_of : (c : CodeData) (text bytes : List ℕ) (reader : Reader) → HasText c text bytes reader → IsPlainFront c text bytes
front_of c text bytes reader has =
    let symbols = has.symbols in
    record {
      blocks = symbols.blocks;
      rest_symbols = symbols.rest;
      cut = symbols.cut;
      words = symbols.decoded.words;
      decoded = symbols.decoded.decoded;
      rest_bits = symbols.decoded.gave.rest;
      filled = symbols.decoded.gave.filled;
    }

pub fed_bytes : (c : CodeData) (text bytes piece front out out' : List ℕ) (old new : Reader) → IsCheckedCode c → HasText c text bytes old → GoesOn c text bytes piece out out' new
    → IsPlainFront c text front → IsPlainFront c (text ++ piece) (front ++ drop (length out) out')
fed_bytes c text bytes piece front out out' old new checked has goes is =
    let same : bytes ≡ front = front_one c text bytes front checked (front_of c text bytes old has) is in
    let given : drop (length out) out' ≡ goes.given = ap (λ (list : List ℕ). drop (length out) list) goes.appended ∙ drop-append_seam out goes.given in
    subst (λ (list : List ℕ). IsPlainFront c (text ++ piece) list) (ap₂ (λ (xs ys : List ℕ). xs ++ ys) same (sym given))
    (front_of c (text ++ piece) (bytes ++ goes.given) new goes.reads)

-- channel texts one behind the other
pub texts_joined : (c : CodeData) (xs ys : List ℕ) → IsChannelText c xs → IsChannelText c ys → IsChannelText c (xs ++ ys)
texts_joined c xs ys first second =
    subst (λ (list : List ℕ). All (IsDigit c) list) (sym (filter-append (λ byte. not (is_blank byte)) xs ys))
    (All-append (IsDigit c) (marks_in xs) (marks_in ys) first second)

-- a bad byte of a piece behind a channel text
pub bad_joined : (c : CodeData) (text piece : List ℕ) (at there : ℕ) → there ≡ length text + at → IsChannelText c text → StopsAt c piece at → IsBadAt c (text ++ piece) there
bad_joined c text piece at there is clean stops =
    let place : get_or (text ++ piece) (length text + at) 0 ≡ get_or piece at 0 = get_or-append-add text piece at 0 in
    subst (λ n. IsBadAt c (text ++ piece) n) (sym is)
    (record {
      inside = omega (arith, stops.inside, length-append text piece);
      before = subst (λ (list : List ℕ). IsChannelText c list) (sym (take-append-add text piece at)) (texts_joined c text (take at piece) clean stops.before);
      seen = ap (λ byte. is_blank byte) place ∙ stops.bad.seen;
      bad = λ digit. stops.bad.bad (subst (λ byte. IsDigit c byte) place digit);
    })

-- a decoder that met no bad byte reads on
pub reads_on : (c : CodeData) (decoder : TextDecoder) (text : List ℕ) (fault : Option ℕ) → ((at : ℕ) → fault ≡ Some at → ⊥) → HasReadTo c decoder text fault
    → (bytes : List ℕ) × HasText c text bytes decoder.reader
reads_on c decoder text None none has = has
reads_on c decoder text (Some at) none has = absurd (none at refl)

pub no_fault : (fault : Option ℕ) → ((at : ℕ) → fault ≡ Some at → ⊥) → fault ≡ None
no_fault None none = refl
no_fault (Some at) none = absurd (none at refl)

pub took_piece : (c : CodeData) (old new : TextDecoder) (text bytes piece out out' : List ℕ) → new.taken ≡ old.taken + length piece → new.fault ≡ None
    → TextHasCome c old text → GoesOn c text bytes piece out out' new.reader → TakesText c old new text piece (Ok tt)
took_piece c old new text bytes piece out out' count none come goes =
    took
    (record {
      taken = omega (arith, count, come.taken, length-append text piece);
      read = subst (λ (fault : Option ℕ). HasReadTo c new (text ++ piece) fault) (sym none) (bytes ++ goes.given, goes.reads);
    })
    goes.reads.clean

pub met_bad : (c : CodeData) (old new : TextDecoder) (text piece : List ℕ) (at place : ℕ) → new.taken ≡ old.taken + length piece → new.fault ≡ Some at → at ≡ old.taken + place
    → TextHasCome c old text → IsChannelText c text → StopsAt c piece place → TakesText c old new text piece (Err (BadSymbol at))
met_bad c old new text piece at place count fault is come clean stops =
    let bad = bad_joined c text piece place at (omega (arith, is, come.taken)) clean stops in
    bad_here at clean
    (record {
      taken = omega (arith, count, come.taken, length-append text piece);
      read = subst (λ (f : Option ℕ). HasReadTo c new (text ++ piece) f) (sym fault) bad;
    })
    bad

pub knew_bad : (c : CodeData) (decoder : TextDecoder) (text piece : List ℕ) (at : ℕ) → decoder.fault ≡ Some at → TextHasCome c decoder text
    → TakesText c decoder decoder text piece (Err (BadSymbol at))
knew_bad c decoder text piece at fault come =
    bad_before at (subst (λ (f : Option ℕ). HasReadTo c decoder text f) fault come.read) refl

-- ---- the end

length-word_bits : (p : ℕ) (words : List ℕ) → length (word_bits p words) ≡ p * length words
length-word_bits p [] = omega arith
length-word_bits p (word ∷ words) =
    omega (arith, length-append (symbols_of 2 p word) (word_bits p words), length-symbols_of 2 p word, length-word_bits p words, mul-suc p (length words))

-- how many symbols have come, where they are whole blocks
pub whole_blocks : (q count blocks : ℕ) → q ≡ blocks → count % q ≡ 0 → count ≡ blocks * (count / q)
whole_blocks q count blocks same whole = sym (omega (arith, whole, div-add-mod count q)) ∙ ap (λ n. n * (count / q)) same

-- the numbers that decide at the end of a text
pub record IsAtEnd (c : CodeData) (text : List ℕ) (n q lead p : ℕ) : Type 0 where
  pub counted : n ≡ length (symbols_in text)
  pub block : q ≡ c.q
  pub around : lead ≡ c.past + c.ahead
  pub word : p ≡ c.p

pub at_end : (c : CodeData) (text bytes : List ℕ) (decoder : TextDecoder) (n q lead p : ℕ) → IsTextDecoderFor c decoder → HasText c text bytes decoder.reader
    → n ≡ decoder.reader.count → q ≡ decoder.q → lead ≡ decoder.lead → p ≡ decoder.p → IsAtEnd c text n q lead p
at_end c text bytes decoder n q lead p for has count block around word =
    record { counted = count ∙ has.counted; block = block ∙ for.q; around = around ∙ for.lead; word = word ∙ for.p }

pub ends_in_part : (c : CodeData) (text bytes : List ℕ) (reader : Reader) (n q lead p : ℕ) → IsAtEnd c text n q lead p → HasText c text bytes reader
    → (n % q ≡ 0 → ⊥) → EndsText c text (Err (PartBlock n))
ends_in_part c text bytes reader n q lead p for has part =
    subst (λ n. EndsText c text (Err (PartBlock n))) (sym for.counted)
    (refused_at_end (PartBlock (length (symbols_in text)))
    (part_block has.clean
    (λ whole. part (ap₂ (λ a b. a % b) for.counted for.block ∙ whole))))

pub ends_too_short : (c : CodeData) (text bytes : List ℕ) (reader : Reader) (n q lead p : ℕ) → IsAtEnd c text n q lead p → HasText c text bytes reader
    → n % q ≡ 0 → n / q < lead → EndsText c text (Err (TooShort (n / q)))
ends_too_short c text bytes reader n q lead p for has whole short =
    refused_at_end (TooShort (n / q))
    (too_short has.clean (n / q) (sym for.counted ∙ whole_blocks q n c.q for.block whole) (omega (arith, short, for.around)))

-- whole blocks are lead-in, lead-out and the words between them
words_counted : (c : CodeData) (text bytes : List ℕ) (reader : Reader) (n q lead p : ℕ) (words : ℕ) → IsAtEnd c text n q lead p → HasText c text bytes reader
    → n % q ≡ 0 → lead ≤ n / q → words ≡ n / q - lead
    → length (symbols_in text) ≡ c.q * (c.past + c.ahead + words)
words_counted c text bytes reader n q lead p words for has whole long is =
    let sum : n / q ≡ c.past + c.ahead + words = omega (arith, long, is, for.around) in
    sym for.counted ∙ whole_blocks q n c.q for.block whole ∙ ap (λ n. c.q * n) sum

pub ends_in_byte : (c : CodeData) (text bytes : List ℕ) (reader : Reader) (n q lead p : ℕ) (words : ℕ) → IsAtEnd c text n q lead p → HasText c text bytes reader
    → n % q ≡ 0 → lead ≤ n / q → words ≡ n / q - lead
    → p ≤ words * p % 8 → EndsText c text (Err (PartByte words))
ends_in_byte c text bytes reader n q lead p words for has whole long is over =
    refused_at_end (PartByte words)
    (part_byte has.clean words (words_counted c text bytes reader n q lead p words for has whole long is)
    (subst (λ n. n ≤ words * n % 8) for.word over))

-- as many words as there are blocks between lead-in and lead-out
words_of_blocks : (c : CodeData) (text bytes : List ℕ) (reader : Reader) (words : ℕ) → 0 < c.q → (has : HasText c text bytes reader)
    → length (symbols_in text) ≡ c.q * (c.past + c.ahead + words) → length has.symbols.decoded.words ≡ words
words_of_blocks c text bytes reader words some has whole =
    let symbols = has.symbols in
    let blocks = length symbols.blocks in
    let rest = length symbols.rest in
    let parts : length (symbols_in text) ≡ c.q * blocks + rest =
    ap (λ (list : List ℕ). length list) symbols.cut.all ∙ length-append (flat c symbols.blocks) symbols.rest ∙ ap (λ n. n + rest) (length-flat c symbols.blocks) in
    let none : rest / c.q ≡ 0 = div-eq_of_lt symbols.cut.part in
    let first : length (symbols_in text) / c.q ≡ blocks + rest / c.q = ap (λ n. n / c.q) parts ∙ mul-add-div some blocks rest in
    let zeros : c.q * (c.past + c.ahead + words) ≡ c.q * (c.past + c.ahead + words) + 0 = omega arith in
    let nothing : 0 / c.q ≡ 0 = div-eq_of_lt some in
    let second : length (symbols_in text) / c.q ≡ c.past + c.ahead + words + 0 / c.q =
    ap (λ n. n / c.q) (whole ∙ zeros) ∙ mul-add-div some (c.past + c.ahead + words) 0 in
    omega (arith, symbols.decoded.decoded.count, none, first, second, nothing)

pub ends_well : (c : CodeData) (text bytes : List ℕ) (reader : Reader) (n q lead p : ℕ) (words : ℕ) → IsCode c → IsAtEnd c text n q lead p → HasText c text bytes reader
    → n % q ≡ 0 → lead ≤ n / q → words ≡ n / q - lead
    → words * p % 8 < p → EndsText c text (Ok (words * p / 8))
ends_well c text bytes reader n q lead p words code for has whole long is fits =
    let some : 0 < c.q = omega (arith, code.p.0, code.q.0) in
    let symbols = words_counted c text bytes reader n q lead p words for has whole long is in
    let gave = has.symbols.decoded.gave in
    let counted : length has.symbols.decoded.words ≡ words = words_of_blocks c text bytes reader words some has symbols in
    let parts : c.p * words ≡ 8 * length bytes + length gave.rest =
    ap (λ n. c.p * n) (sym counted) ∙ sym (length-word_bits c.p has.symbols.decoded.words) ∙ ap (λ (list : List ℕ). length list) gave.filled.all
    ∙ length-append (bits bytes) gave.rest ∙ ap (λ n. n + length gave.rest) (length-bits bytes) in
    let turned : words * c.p ≡ 8 * length bytes + length gave.rest = grind (arith, parts) in
    let none : length gave.rest / 8 ≡ 0 = div-eq_of_lt gave.filled.part in
    let eights : (8 * length bytes + length gave.rest) / 8 ≡ length bytes + length gave.rest / 8 = mul-add-div (omega arith) (length bytes) (length gave.rest) in
    let count : words * p / 8 ≡ length bytes = ap (λ n. words * n / 8) for.word ∙ ap (λ n. n / 8) turned ∙ omega (arith, eights, none) in
    ended bytes
    (reads has.clean words symbols (subst (λ n. words * n % 8 < n) for.word fits) bytes (front_of c text bytes reader has))
    (words * p / 8) count

-- a text with a bad byte ends with it
pub ends_at_bad : (c : CodeData) (decoder : TextDecoder) (text : List ℕ) (at : ℕ) → decoder.fault ≡ Some at → TextHasCome c decoder text → EndsText c text (Err (EndFault.BadSymbol at))
ends_at_bad c decoder text at fault come =
    refused_at_end (EndFault.BadSymbol at) (bad_symbol at (subst (λ (f : Option ℕ). HasReadTo c decoder text f) fault come.read))

-- the bits of the words that have come are few, so their number is exact
pub bits_are : (count q lead p bits : ℕ) → count ≤ 2 ^ 40 → p ≤ 8 → bits ≡ min ((count / q - lead) * p) (2 ^ 64 - 1) → bits ≡ (count / q - lead) * p
bits_are count q lead p bits few small is =
    let words = count / q - lead in
    let most : words * p ≤ words * 8 = mul-le-mul_left words small in
    omega (arith, most, div-le_self count q, few, is)

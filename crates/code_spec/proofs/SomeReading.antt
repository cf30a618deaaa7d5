-- Each text gives a file or is refused.
use Rattle.std.proofs.Common.{◌≡◌, ℕ, zero, suc, ◌+◌, ◌-◌, ◌*◌, ◌/◌, ◌%◌, ◌<◌, ◌^◌, ◌⊎◌, inl, inr, List, [], ◌∷◌, length, map, take, get_or, refl, sym, ap, ◌∙◌, subst, arith}
use Rattle.std.specs.Prelude.{All, Result, Ok, Err, not, true, false, cond}
use Rattle.std.specs.List.{range_with_len}
use Rattle.std.proofs.Math.Nat.{div-add-mod}
use Rattle.std.proofs.lemmas.Bool.{cases_lt, cases_eq, cases_Bool}
use Rattle.std.proofs.lemmas.List.Elements.{All-nil, All-cons, All-append, All-map}
use Rattle.std.proofs.lemmas.List.FromFn.{length-map-range_with_len, get_or-map-range_with_len}
use Rattle.symbol_base.specs.declared.Block.{Block}
use Rattle.symbol_base.specs.Block.{number_of, symbols_of}
use Rattle.symbol_base.specs.Bits.{byte_bits}
use Rattle.symbol_base.proofs.BlockLemmas.{symbols_of-number_of, number_of-lt, IsOver-symbols_of}
use Rattle.code_spec.specs.declared.fault.EndFault.{EndFault}
use Rattle.code_spec.specs.declared.fault.EndFault.TheVariants.{BadSymbol, PartBlock, TooShort, PartByte}
use Rattle.code_spec.specs.Code.{CodeData, IsCode}
use Rattle.code_spec.specs.Output.{row_at}
use Rattle.code_spec.specs.Decoder.{IsDecoded, window_at, AreDecoded}
use Rattle.code_spec.specs.Walks.{IsReadable}
use Rattle.code_spec.specs.PlainReading.{is_blank, marks_in, IsDigit, IsChannelText, symbols_in, IsBadAt, IsBlock, word_bits, AreBlocksOf, AreBytesOf, IsPlainFront, HasWords, ReadsText, bad_symbol, part_block, too_short, part_byte, reads}
use Rattle.code_spec.proofs.Chunks.{Cut, chunks_some}
use Rattle.code_spec.proofs.ReadBack.{not_blank}
use Rattle.code_spec.proofs.WalkLaws.{readable_none, readable_more, readable_first}

-- ---- what can be told by a search

-- what can be told of each number can be told of all below n together
some_or_none : (P : ℕ → Type 0) → ((i : ℕ) → P i ⊎ (P i → ⊥)) → (n : ℕ) → ((i : ℕ) × (i < n) × P i) ⊎ ((i : ℕ) → i < n → P i → ⊥)
some_or_none P tells zero = inr (λ i inside has. absurd (omega (arith, inside)))
some_or_none P tells (suc n) =
    elim (some_or_none P tells n) [
      | inl found ↦ inl (found.0, omega (arith, found.1), found.2)
      | inr none ↦ elim (tells n) [
        | inl last ↦ inl (n, omega arith, last)
        | inr other ↦ inr (λ i inside has. elim (cases_lt i n) [
          | inl before ↦ none i before has
          | inr behind ↦ (let same : i ≡ n = omega (arith, inside, behind) in other (subst P same has))
        ])
      ]
    ]

-- what can be told of each of two can be told of both
both_or_not : {A B : Type 0} → A ⊎ (A → ⊥) → B ⊎ (B → ⊥) → (A × B) ⊎ ((A × B) → ⊥)
both_or_not (inl a) (inl b) = inl (a, b)
both_or_not (inl a) (inr none) = inr (λ both. none both.1)
both_or_not (inr none) other = inr (λ both. none both.0)

-- blocks are told apart by their numbers
same_block_or_not : (x y : Block) → (x ≡ y) ⊎ (x ≡ y → ⊥)
same_block_or_not x y =
    elim (cases_eq x.value y.value) [
      | inl same ↦ inl (ap (λ value. record { value = value }) same)
      | inr other ↦ inr (λ same. other (ap (λ (block : Block). block.value) same))
    ]

-- ---- the decoder's answers

-- where it can be told from which states blocks can be read, it can be told with one block more
first_or_not : (c : CodeData) (block : Block) (blocks : List Block) (state : ℕ) → ((next : ℕ) → IsReadable c blocks next ⊎ (IsReadable c blocks next → ⊥))
    → IsReadable c (block ∷ blocks) state ⊎ (IsReadable c (block ∷ blocks) state → ⊥)
first_or_not c block blocks state tells =
    let leads : ℕ → Type 0 = λ word. ((row_at c.rows state word).block ≡ block) × IsReadable c blocks (row_at c.rows state word).to in
    elim (some_or_none leads (λ word. both_or_not (same_block_or_not (row_at c.rows state word).block block) (tells (row_at c.rows state word).to)) (2 ^ c.p)) [
      | inl found ↦ inl
          (readable_more c block blocks state (row_at c.rows state found.0).to
          (record { word = found.0; below = found.1; writes = found.2.0; leads = refl }) found.2.1)
      | inr none ↦ inr (λ readable.
          let first = readable_first c block blocks state readable in
          let arc = first.1.0 in
          none arc.word arc.below (arc.writes, subst (λ next. IsReadable c blocks next) (sym arc.leads) first.1.1))
    ]

-- it can be told from which states blocks can be read
readable_or_not : (c : CodeData) (blocks : List Block) (state : ℕ) → IsReadable c blocks state ⊎ (IsReadable c blocks state → ⊥)
readable_or_not c [] state = inl (readable_none c state)
readable_or_not c (block ∷ blocks) state = first_or_not c block blocks state (readable_or_not c blocks)

-- each window has an answer
some_answer : (c : CodeData) (window : List Block) → (word : ℕ) × IsDecoded c window word
some_answer c window =
    elim (some_or_none (IsReadable c window) (readable_or_not c window) (length c.rows)) [
      | inl found ↦ (
        get_or found.2.words c.past 0,
        inl (record { state = found.0; words = found.2.words; inside = found.1; below = found.2.below; writes = found.2.writes; here = refl }),
      )
      | inr none ↦ (
        0,
        inr (refl, λ other has. none has.state has.inside (record { words = has.words; below = has.below; writes = has.writes })),
      )
    ]

-- so each list of blocks has a list of answers
some_answers : (c : CodeData) (blocks : List Block) → (words : List ℕ) × AreDecoded c blocks words
some_answers c blocks =
    let n = length blocks - (c.past + c.ahead) in
    let word : ℕ → ℕ = λ at. (some_answer c (window_at c blocks at)).0 in
    let count = length-map-range_with_len word 0 n in (
      map word (range_with_len 0 n),
      record {
        count = count;
        each =
            λ at inside.
            let here = get_or-map-range_with_len word 0 n at at 0 (omega (arith, inside, count)) (omega arith) in
            subst (λ w. IsDecoded c (window_at c blocks at) w) (sym here) (some_answer c (window_at c blocks at)).1;
      },
    )

-- ---- blocks and bytes

-- so many digits are those of their number
digits_number : (a size : ℕ) (digits : List ℕ) → 0 < a → length digits ≡ size → All (λ digit. digit < a) digits
    → (symbols_of a size (number_of a digits) ≡ digits) × (number_of a digits < a ^ size)
digits_number a size digits some counted below = (
  subst (λ n. symbols_of a n (number_of a digits) ≡ digits) counted (symbols_of-number_of a digits some below),
  subst (λ n. number_of a digits < a ^ n) counted (number_of-lt a digits below),
)

-- symbols of the alphabet are those of blocks, and behind them some that fill no block
some_blocks : (c : CodeData) (symbols : List ℕ) → IsCode c → All (λ symbol. symbol < c.constraint.alphabet) symbols
    → (blocks : List Block) × ((rest : List ℕ) × AreBlocksOf c symbols blocks rest)
some_blocks c symbols code below =
    let some : 0 < c.constraint.alphabet = omega (arith, code.alphabet) in
    let filled : 0 < c.q = omega (arith, code.p.0, code.q.0) in
    let cut : Cut (λ (block : Block). symbols_of c.constraint.alphabet c.q block.value) c.q (IsBlock c) symbols =
    chunks_some (λ (block : Block). symbols_of c.constraint.alphabet c.q block.value) c.q (IsBlock c) (λ symbol. symbol < c.constraint.alphabet) filled
    (λ chunk counted small. (record { value = number_of c.constraint.alphabet chunk }, digits_number c.constraint.alphabet c.q chunk some counted small))
    symbols below in
    (cut.items, (cut.rest, record { all = cut.all; below = cut.below; part = cut.part }))

-- eight bits are those of a byte
byte_of_bits : (chunk : List ℕ) → length chunk ≡ 8 → All (λ bit. bit < 2) chunk → (byte : ℕ) × ((byte_bits byte ≡ chunk) × (byte < 2 ^ 8))
unfolding byte_bits
byte_of_bits chunk counted small = (number_of 2 chunk, digits_number 2 8 chunk (omega arith) counted small)

-- the bits of words are 0 or 1
word_bits_small : (p : ℕ) (words : List ℕ) → All (λ bit. bit < 2) (word_bits p words)
word_bits_small p [] = All-nil (λ bit. bit < 2)
word_bits_small p (word ∷ words) =
    All-append (λ bit. bit < 2) (symbols_of 2 p word) (word_bits p words) (IsOver-symbols_of 2 p word (omega arith)) (word_bits_small p words)

-- the bits of words are those of bytes, and behind them some that fill no byte
some_bytes : (p : ℕ) (words : List ℕ) → (bytes : List ℕ) × ((rest : List ℕ) × AreBytesOf p words bytes rest)
some_bytes p words =
    let cut : Cut byte_bits 8 (λ byte. byte < 2 ^ 8) (word_bits p words) =
    chunks_some byte_bits 8 (λ byte. byte < 2 ^ 8) (λ bit. bit < 2) (omega arith) byte_of_bits (word_bits p words) (word_bits_small p words) in
    (cut.items, (cut.rest, record { all = cut.all; below = cut.below; part = cut.part }))

-- ---- the marks of a text

-- it can be told of each byte whether it is a digit
digit_or_not : (c : CodeData) (byte : ℕ) → IsDigit c byte ⊎ (IsDigit c byte → ⊥)
digit_or_not c byte =
    elim (cases_lt byte 48) [
      | inl under ↦ inr (λ digit. omega (arith, under, digit.least))
      | inr least ↦ elim (cases_lt byte (48 + c.constraint.alphabet)) [
        | inl below ↦ inl (record { least = least; below = below })
        | inr over ↦ inr (λ digit. omega (arith, over, digit.below))
      ]
    ]

-- a byte that is passed over, before a channel text
blank_before : (c : CodeData) (byte : ℕ) (text : List ℕ) → is_blank byte ≡ true → IsChannelText c text → IsChannelText c (byte ∷ text)
blank_before c byte text seen clean =
    let kept : marks_in (byte ∷ text) ≡ marks_in text = ap (λ blank. cond (not blank) (byte ∷ marks_in text) (marks_in text)) seen in
    subst (λ (marks : List ℕ). All (IsDigit c) marks) (sym kept) clean

-- a digit before a channel text
digit_before : (c : CodeData) (byte : ℕ) (text : List ℕ) → IsDigit c byte → IsChannelText c text → IsChannelText c (byte ∷ text)
digit_before c byte text digit clean =
    let kept : marks_in (byte ∷ text) ≡ byte ∷ marks_in text = ap (λ blank. cond (not blank) (byte ∷ marks_in text) (marks_in text)) (not_blank byte digit.least) in
    subst (λ (marks : List ℕ). All (IsDigit c) marks) (sym kept) (All-cons (IsDigit c) byte (marks_in text) digit clean)

-- a byte may stand before any channel text, or is a bad one
good_or_bad : (c : CodeData) (byte : ℕ) → ((text : List ℕ) → IsChannelText c text → IsChannelText c (byte ∷ text)) ⊎ ((is_blank byte ≡ false) × (IsDigit c byte → ⊥))
good_or_bad c byte =
    elim (digit_or_not c byte) [
      | inl digit ↦ inl (λ text clean. digit_before c byte text digit clean)
      | inr none ↦ elim (cases_Bool (is_blank byte)) [
        | inl blank ↦ inl (λ text clean. blank_before c byte text blank clean)
        | inr seen ↦ inr (seen, none)
      ]
    ]

-- a text is a channel text or has a first bad byte
text_or_bad : (c : CodeData) (text : List ℕ) → IsChannelText c text ⊎ ((at : ℕ) × IsBadAt c text at)
text_or_bad c [] = inl (All-nil (IsDigit c))
text_or_bad c (byte ∷ text) =
    elim (good_or_bad c byte) [
      | inl good ↦ elim (text_or_bad c text) [
        | inl clean ↦ inl (good text clean)
        | inr later ↦ inr (
          suc later.0,
          record { inside = omega (arith, later.1.inside); before = good (take later.0 text) later.1.before; seen = later.1.seen; bad = later.1.bad },
        )
      ]
      | inr bad ↦ inr (0, record { inside = omega arith; before = All-nil (IsDigit c); seen = bad.0; bad = bad.1 })
    ]

-- the symbols of a channel text are over the alphabet
symbols_below : (c : CodeData) (text : List ℕ) → IsChannelText c text → All (λ symbol. symbol < c.constraint.alphabet) (symbols_in text)
symbols_below c text clean =
    All-map (λ symbol. symbol < c.constraint.alphabet) (λ byte. byte - 48) (marks_in text)
    (λ k d inside. let digit = clean k d inside in omega (arith, digit.least, digit.below))

-- ---- the reading

-- a channel text that may go on gives some bytes
some_front : (c : CodeData) (text : List ℕ) → IsCode c → IsChannelText c text → (bytes : List ℕ) × IsPlainFront c text bytes
some_front c text code clean =
    let cut = some_blocks c (symbols_in text) code (symbols_below c text clean) in
    let answers = some_answers c cut.0 in
    let filled = some_bytes c.p answers.0 in (
      filled.0,
      record {
        blocks = cut.0;
        rest_symbols = cut.1.0;
        cut = cut.1.1;
        words = answers.0;
        decoded = answers.1;
        rest_bits = filled.1.0;
        filled = filled.1.1;
      },
    )

-- a channel text of lead-in, lead-out and so many data words between them gives a file or is refused
words_reading : (c : CodeData) (text : List ℕ) (count : ℕ) → IsCode c → IsChannelText c text → HasWords c text count → (answer : Result (List ℕ) EndFault) × ReadsText c text answer
words_reading c text count code clean whole =
    elim (cases_lt (count * c.p % 8) c.p) [
      | inl fits ↦ (let front = some_front c text code clean in (Ok front.0, reads clean count whole fits front.0 front.1))
      | inr over ↦ (Err (PartByte count), part_byte clean count whole over)
    ]

-- so does one of so many blocks
blocks_reading : (c : CodeData) (text : List ℕ) (count : ℕ) → IsCode c → IsChannelText c text → length (symbols_in text) ≡ c.q * count → (answer : Result (List ℕ) EndFault) × ReadsText c text answer
blocks_reading c text count code clean whole =
    elim (cases_lt count (c.past + c.ahead)) [
      | inl short ↦ (Err (TooShort count), too_short clean count whole short)
      | inr long ↦ (
          let inner : count ≡ c.past + c.ahead + (count - (c.past + c.ahead)) = omega (arith, long) in
          words_reading c text (count - (c.past + c.ahead)) code clean (whole ∙ ap (λ n. c.q * n) inner))
    ]

-- so does each channel text
channel_reading : (c : CodeData) (text : List ℕ) → IsCode c → IsChannelText c text → (answer : Result (List ℕ) EndFault) × ReadsText c text answer
channel_reading c text code clean =
    let symbols = length (symbols_in text) in
    elim (cases_eq (symbols % c.q) 0) [
      | inl none ↦ (
          let parts : c.q * (symbols / c.q) + symbols % c.q ≡ symbols = div-add-mod symbols c.q in
          blocks_reading c text (symbols / c.q) code clean (omega (arith, parts, none)))
      | inr part ↦ (Err (PartBlock symbols), part_block clean part)
    ]

-- and each text
pub some_reading : (c : CodeData) (text : List ℕ) → IsCode c → (answer : Result (List ℕ) EndFault) × ReadsText c text answer
some_reading c text code =
    elim (text_or_bad c text) [
      | inl clean ↦ channel_reading c text code clean
      | inr bad ↦ (Err (BadSymbol bad.0), bad_symbol bad.0 bad.1)
    ]

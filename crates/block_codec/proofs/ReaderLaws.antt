-- One symbol more, one block more, one word more.
use Rattle.std.proofs.Common.{◌≡◌, ℕ, ◌+◌, ◌-◌, ◌<◌, ◌≤◌, ◌^◌, Option, Some, None, List, [], ◌∷◌, ◌++◌, length, take, drop, get_or, refl, sym, ap, ap₂, ◌∙◌, subst, arith, inl, inr, append_assoc}
use Rattle.std.specs.Prelude.{All, Bool, true, false, not, cond, map}
use Rattle.std.proofs.Math.Seq.{take-add}
use Rattle.std.proofs.lemmas.Bool.{cases_lt}
use Rattle.std.proofs.lemmas.List.{append-nil, length-append, map-append, get_or_append_left, get_or_push, take-append-le, take_all, drop-append-le, length-drop}
use Rattle.std.proofs.lemmas.List.Concat.{flat_map-append}
use Rattle.std.proofs.lemmas.List.Elements.{All-nil, All-append, All-from_recursion, filter-append}
use Rattle.symbol_base.specs.declared.Block.{Block}
use Rattle.symbol_base.specs.Block.{number_of, symbols_of}
use Rattle.symbol_base.specs.Bits.{bits, byte_bits}
use Rattle.symbol_base.proofs.BlockLemmas.{symbols_of-number_of}
use Rattle.code_spec.specs.Code.{CodeData}
use Rattle.code_spec.specs.Output.{flat}
use Rattle.code_spec.specs.Decoder.{window_length, window_at, IsDecoded, AreDecoded}
use Rattle.code_spec.specs.PlainReading.{is_blank, marks_in, IsDigit, symbols_in, IsBlock, AreBlocksOf, word_bits}
use Rattle.code_spec.proofs.OutputLaws.{flat-append}
use Rattle.code_spec.proofs.ReadBack.{not_blank}
use Rattle.code_spec.proofs.ReadingLaws.{text_parts}
use Rattle.block_codec.specs.declared.window_decoder.WindowDecoder.{WindowDecoder}
use Rattle.block_codec.specs.declared.part.Part.{Part}
use Rattle.block_codec.specs.Decoding.{block_of, IsAnswer}
use Rattle.block_codec.specs.inside.Parts.{IsPart, Holds, TakesOut, Regroups}
use Rattle.block_codec.specs.inside.WindowDecoding.{HaveCome}
use Rattle.block_codec.specs.inside.Readers.{HoldsBits, HasDecoded, HasSymbols, HasText, GoesOn, StopsAt, IsFrontOf, IsBadByte, listed}
use Rattle.block_codec.specs.declared.reader.Reader.{Reader}

-- ---- words and bytes

one_word : (p w : ℕ) (words : List ℕ) → word_bits p (words ++ w ∷ []) ≡ word_bits p words ++ symbols_of 2 p w
one_word p w words =
    flat_map-append (symbols_of 2 p) words (w ∷ []) ∙ ap (λ (list : List ℕ). word_bits p words ++ list) (append-nil (symbols_of 2 p w))

one_byte : (bytes : List ℕ) (byte : ℕ) → bits (bytes ++ byte ∷ []) ≡ bits bytes ++ symbols_of 2 8 byte
unfolding byte_bits
one_byte bytes byte =
    flat_map-append byte_bits bytes (byte ∷ []) ∙ ap (λ (list : List ℕ). bits bytes ++ list) (append-nil (symbols_of 2 8 byte))

all_one : {A : Type 0} (P : A → Type 0) (x : A) → P x → All P (x ∷ [])
all_one P x holds = All-from_recursion P (x ∷ []) (holds, tt)

-- a word that fills no byte
bits_held : (p w : ℕ) (words bytes : List ℕ) (old new : Part) → IsPart 8 new → HoldsBits p words bytes old
    → ((held : List ℕ) → Holds old held → Holds new (held ++ symbols_of 2 p w)) → HoldsBits p (words ++ w ∷ []) bytes new
bits_held p w words bytes old new part before more =
    let held = more before.rest before.held in
    record {
      rest = before.rest ++ symbols_of 2 p w;
      filled = record {
        all = one_word p w words ∙ ap (λ (list : List ℕ). list ++ symbols_of 2 p w) before.filled.all ∙ append_assoc (bits bytes) before.rest (symbols_of 2 p w);
        below = before.filled.below;
        part = omega (arith, part.short, held.counted);
      };
      held = held;
    }

-- a word that fills a byte
bits_filled : (p w : ℕ) (words bytes : List ℕ) (old new : Part) (byte : ℕ) → IsPart 8 new → HoldsBits p words bytes old
    → ((held : List ℕ) → Holds old held → TakesOut 8 (held ++ symbols_of 2 p w) new byte) → HoldsBits p (words ++ w ∷ []) (bytes ++ byte ∷ []) new
bits_filled p w words bytes old new byte part before more =
    let taken = more before.rest before.held in
    record {
      rest = taken.rest;
      filled = record {
        all =
            one_word p w words
            ∙ ap (λ (list : List ℕ). list ++ symbols_of 2 p w) before.filled.all
            ∙ append_assoc (bits bytes) before.rest (symbols_of 2 p w)
            ∙ ap (λ (list : List ℕ). bits bytes ++ list) taken.split
            ∙ sym (append_assoc (bits bytes) (symbols_of 2 8 byte) taken.rest)
            ∙ ap (λ (list : List ℕ). list ++ taken.rest) (sym (one_byte bytes byte));
        below = All-append (λ b. b < 2 ^ 8) bytes (byte ∷ []) before.filled.below (all_one (λ b. b < 2 ^ 8) byte taken.below);
        part = omega (arith, part.short, taken.held.counted);
      };
      held = taken.held;
    }

word_taken : (p w : ℕ) (words bytes : List ℕ) (old new : Part) (result : Option ℕ) → IsPart 8 new → HoldsBits p words bytes old
    → ((held : List ℕ) → Holds old held → Regroups 8 (held ++ symbols_of 2 p w) new result) → HoldsBits p (words ++ w ∷ []) (bytes ++ listed result) new
word_taken p w words bytes old new None part before more =
    subst (λ (list : List ℕ). HoldsBits p (words ++ w ∷ []) list new) (sym (append-nil bytes)) (bits_held p w words bytes old new part before more)
word_taken p w words bytes old new (Some byte) part before more = bits_filled p w words bytes old new byte part before more

-- ---- blocks and words

decoded_short : (c : CodeData) (blocks : List Block) (block : Block) (words : List ℕ) → length (blocks ++ block ∷ []) < window_length c
    → AreDecoded c blocks words → AreDecoded c (blocks ++ block ∷ []) words
decoded_short c blocks block words short before =
    let len = length-append blocks (block ∷ []) in
    record {
      count = omega (arith, before.count, len, short);
      each = λ at inside. absurd (omega (arith, inside, before.count, len, short));
    }

-- the windows that were there before
window_before : (c : CodeData) (blocks : List Block) (block : Block) (at : ℕ) → at + window_length c ≤ length blocks
    → window_at c (blocks ++ block ∷ []) at ≡ window_at c blocks at
window_before c blocks block at fits =
    ap (λ (list : List Block). take (window_length c) list) (drop-append-le at blocks (block ∷ []) (omega (arith, fits)))
    ∙ take-append-le (window_length c) (drop at blocks) (block ∷ []) (omega (arith, fits, length-drop at blocks))

-- the last window
window_last : (c : CodeData) (blocks : List Block) (at : ℕ) → at + window_length c ≡ length blocks
    → drop (length blocks - window_length c) blocks ≡ window_at c blocks at
window_last c blocks at fits =
    let place : length blocks - window_length c ≡ at = omega (arith, fits) in
    ap (λ n. drop n blocks) place ∙ sym (take_all (window_length c) (drop at blocks) (omega (arith, fits, length-drop at blocks)))

decoded_more : (c : CodeData) (blocks : List Block) (block : Block) (words : List ℕ) (word : ℕ) → window_length c ≤ length (blocks ++ block ∷ [])
    → IsDecoded c (drop (length (blocks ++ block ∷ []) - window_length c) (blocks ++ block ∷ [])) word
    → AreDecoded c blocks words → AreDecoded c (blocks ++ block ∷ []) (words ++ word ∷ [])
decoded_more c blocks block words word long answer before =
    let all = blocks ++ block ∷ [] in
    let len = length-append blocks (block ∷ []) in
    let count = length-append words (word ∷ []) in
    record {
      count = omega (arith, before.count, len, count, long);
      each =
          λ at inside.
          elim (cases_lt at (length words)) [
            | inl early ↦
                subst (λ (window : List Block). IsDecoded c window (get_or (words ++ word ∷ []) at 0)) (sym (window_before c blocks block at (omega (arith, early, before.count))))
                (subst (λ w. IsDecoded c (window_at c blocks at) w) (sym (get_or_append_left words (word ∷ []) 0 at early)) (before.each at early))
            | inr late ↦ (
                let here : length words ≡ at = omega (arith, late, inside, count) in
                let fits : at + window_length c ≡ length all = omega (arith, here, before.count, len, long) in
                subst (λ (window : List Block). IsDecoded c window (get_or (words ++ word ∷ []) at 0)) (window_last c all at fits)
                (subst (λ w. IsDecoded c (drop (length all - window_length c) all) w) (sym (get_or_push words word 0 at here)) answer))
          ];
    }

-- ---- a block that comes

-- a block that gives no word
pub block_alone : (c : CodeData) (blocks : List Block) (block : Block) (bytes : List ℕ) (old new : WindowDecoder) (part : Part) → HasDecoded c blocks bytes old part
    → HaveCome c new (blocks ++ block ∷ []) → IsAnswer c (blocks ++ block ∷ []) None → HasDecoded c (blocks ++ block ∷ []) bytes new part
block_alone c blocks block bytes old new part before came none = record {
  came = came;
  words = before.words;
  decoded = decoded_short c blocks block before.words none before.decoded;
  gave = before.gave;
}

-- a block that gives a word
pub block_decoded : (c : CodeData) (blocks : List Block) (block : Block) (bytes : List ℕ) (old new : WindowDecoder) (part later : Part) (word : ℕ) (result : Option ℕ) → IsPart 8 later
    → HasDecoded c blocks bytes old part → HaveCome c new (blocks ++ block ∷ []) → IsAnswer c (blocks ++ block ∷ []) (Some word)
    → ((held : List ℕ) → Holds part held → Regroups 8 (held ++ symbols_of 2 c.p word) later result)
    → HasDecoded c (blocks ++ block ∷ []) (bytes ++ listed result) new later
block_decoded c blocks block bytes old new part later word result short before came answer more = record {
  came = came;
  words = before.words ++ word ∷ [];
  decoded = decoded_more c blocks block before.words word answer.0 answer.1 before.decoded;
  gave = word_taken c.p word before.words bytes part later result short before.gave more;
}

-- ---- a symbol that comes

one_symbol : (symbol : ℕ) → symbol < 2 → symbols_of 2 1 symbol ≡ symbol ∷ []
one_symbol symbol small =
    let same : symbol ≡ number_of 2 (symbol ∷ []) = omega arith in
    ap (λ n. symbols_of 2 1 n) same ∙ symbols_of-number_of 2 (symbol ∷ []) (omega arith) (all_one (λ s. s < 2) symbol small)

-- a symbol that fills no block
pub blocks_held : (c : CodeData) (symbols rest : List ℕ) (blocks : List Block) (symbol : ℕ) (new : Part) → symbol < 2 → IsPart c.q new
    → AreBlocksOf c symbols blocks rest → Holds new (rest ++ symbols_of 2 1 symbol) → AreBlocksOf c (symbols ++ symbol ∷ []) blocks (rest ++ symbols_of 2 1 symbol)
blocks_held c symbols rest blocks symbol new small part before held = record {
  all =
      ap₂ (λ (front back : List ℕ). front ++ back) before.all (sym (one_symbol symbol small))
      ∙ append_assoc (flat c blocks) rest (symbols_of 2 1 symbol);
  below = before.below;
  part = omega (arith, part.short, held.counted);
}

-- a symbol that fills a block
pub blocks_filled : (c : CodeData) (symbols rest : List ℕ) (blocks : List Block) (symbol whole : ℕ) (new : Part) → c.constraint.alphabet ≡ 2 → symbol < 2 → IsPart c.q new
    → AreBlocksOf c symbols blocks rest → (taken : TakesOut c.q (rest ++ symbols_of 2 1 symbol) new whole)
    → AreBlocksOf c (symbols ++ symbol ∷ []) (blocks ++ block_of whole ∷ []) taken.rest
blocks_filled c symbols rest blocks symbol whole new two small part before taken =
    let one : List Block = block_of whole ∷ [] in
    let block : flat c one ≡ symbols_of 2 c.q whole =
    append-nil (symbols_of c.constraint.alphabet c.q whole) ∙ ap (λ a. symbols_of a c.q whole) two in
    let below : IsBlock c (block_of whole) = subst (λ a. whole < a ^ c.q) (sym two) taken.below in
    record {
      all =
          ap₂ (λ (front back : List ℕ). front ++ back) before.all (sym (one_symbol symbol small))
          ∙ append_assoc (flat c blocks) rest (symbols_of 2 1 symbol)
          ∙ ap (λ (list : List ℕ). flat c blocks ++ list) (taken.split ∙ ap (λ (list : List ℕ). list ++ taken.rest) (sym block))
          ∙ sym (append_assoc (flat c blocks) (flat c one) taken.rest)
          ∙ ap (λ (list : List ℕ). list ++ taken.rest) (sym (flat-append c blocks one));
      below = All-append (IsBlock c) blocks one before.below (all_one (IsBlock c) (block_of whole) below);
      part = omega (arith, part.short, taken.held.counted);
    }

-- ---- a byte of a text that comes

-- what is passed over adds no mark
pub blank_comes : (c : CodeData) (text bytes : List ℕ) (byte : ℕ) (reader : Reader) → is_blank byte ≡ true → HasText c text bytes reader → HasText c (text ++ byte ∷ []) bytes reader
blank_comes c text bytes byte reader blank has =
    let keeps : ℕ → Bool = λ b. not (is_blank b) in
    let none : marks_in (byte ∷ []) ≡ [] = ap (λ b. cond (not b) (byte ∷ []) []) blank in
    let same : marks_in (text ++ byte ∷ []) ≡ marks_in text =
    filter-append keeps text (byte ∷ []) ∙ ap (λ (list : List ℕ). marks_in text ++ list) none ∙ append-nil (marks_in text) in
    let symbols : symbols_in (text ++ byte ∷ []) ≡ symbols_in text = ap (λ (list : List ℕ). map (λ b. b - 48) list) same in
    record {
      clean = subst (λ (list : List ℕ). All (IsDigit c) list) (sym same) has.clean;
      counted = has.counted ∙ ap (λ (list : List ℕ). length list) (sym symbols);
      symbols = subst (λ (list : List ℕ). HasSymbols c list bytes reader) (sym symbols) has.symbols;
    }

-- a digit adds its symbol
pub digit_comes : (c : CodeData) (text bytes more : List ℕ) (symbol : ℕ) (old new : Reader) → c.constraint.alphabet ≡ 2 → symbol < 2 → HasText c text bytes old
    → new.count ≡ old.count + 1 → HasSymbols c (symbols_in text ++ symbol ∷ []) more new → HasText c (text ++ (48 + symbol) ∷ []) more new
digit_comes c text bytes more symbol old new two small has count comes =
    let byte = 48 + symbol in
    let keeps : ℕ → Bool = λ b. not (is_blank b) in
    let one : marks_in (byte ∷ []) ≡ byte ∷ [] = ap (λ b. cond (not b) (byte ∷ []) []) (not_blank byte (omega arith)) in
    let marks : marks_in (text ++ byte ∷ []) ≡ marks_in text ++ byte ∷ [] =
    filter-append keeps text (byte ∷ []) ∙ ap (λ (list : List ℕ). marks_in text ++ list) one in
    let digit : IsDigit c byte = record { least = omega arith; below = omega (arith, two, small) } in
    let value : byte - 48 ≡ symbol = omega arith in
    let symbols : symbols_in (text ++ byte ∷ []) ≡ symbols_in text ++ symbol ∷ [] =
    ap (λ (list : List ℕ). map (λ b. b - 48) list) marks ∙ map-append (λ b. b - 48) (marks_in text) (byte ∷ [])
    ∙ ap (λ n. symbols_in text ++ n ∷ []) value in
    record {
      clean = subst (λ (list : List ℕ). All (IsDigit c) list) (sym marks) (All-append (IsDigit c) (marks_in text) (byte ∷ []) has.clean (all_one (IsDigit c) byte digit));
      counted = omega (arith, count, has.counted, ap (λ (list : List ℕ). length list) symbols, length-append (symbols_in text) (symbol ∷ []));
      symbols = subst (λ (list : List ℕ). HasSymbols c list more new) (sym symbols) comes;
    }

-- a byte below the digits, and one above them
pub bad_below : (c : CodeData) (byte : ℕ) → is_blank byte ≡ false → byte < 48 → IsBadByte c byte
bad_below c byte seen low = record { seen = seen; bad = λ digit. omega (arith, digit.least, low) }

pub bad_above : (c : CodeData) (byte : ℕ) → c.constraint.alphabet ≡ 2 → is_blank byte ≡ false → 49 < byte → IsBadByte c byte
bad_above c byte two seen high = record { seen = seen; bad = λ digit. omega (arith, digit.below, high, two) }

-- the symbols don't depend on their count
pub recounted : (c : CodeData) (symbols bytes : List ℕ) (reader : Reader) (n : ℕ) → HasSymbols c symbols bytes reader
    → HasSymbols c symbols bytes (record { blocks = reader.blocks; symbols = reader.symbols; bits = reader.bits; digits = reader.digits; count = n })
recounted c symbols bytes reader n has = record { blocks = has.blocks; rest = has.rest; cut = has.cut; held = has.held; decoded = has.decoded }

pub digit_goes_on : (c : CodeData) (text bytes : List ℕ) (symbol : ℕ) (old new : Reader) (result : Option ℕ) (out out' : List ℕ) → c.constraint.alphabet ≡ 2 → symbol < 2
    → new.count ≡ old.count + 1 → out' ≡ out ++ listed result → HasText c text bytes old → HasSymbols c (symbols_in text ++ symbol ∷ []) (bytes ++ listed result) new
    → GoesOn c text bytes ((48 + symbol) ∷ []) out out' new
digit_goes_on c text bytes symbol old new result out out' two small count put has comes =
    record { given = listed result; appended = put; reads = digit_comes c text bytes (bytes ++ listed result) symbol old new two small has count comes }

pub blank_goes_on : (c : CodeData) (text bytes out : List ℕ) (byte : ℕ) (reader : Reader) → is_blank byte ≡ true → HasText c text bytes reader → GoesOn c text bytes (byte ∷ []) out out reader
blank_goes_on c text bytes out byte reader blank has = record {
  given = [];
  appended = sym (append-nil out);
  reads = subst (λ (list : List ℕ). HasText c (text ++ byte ∷ []) list reader) (sym (append-nil bytes)) (blank_comes c text bytes byte reader blank has);
}

-- ---- a piece of a text that comes

pub front_more : (a b d : List ℕ) → IsFrontOf a b → IsFrontOf b d → IsFrontOf a d
front_more a b d first second = record {
  more = first.more ++ second.more;
  is = second.is ∙ ap (λ (list : List ℕ). list ++ second.more) first.is ∙ append_assoc a first.more second.more;
}

pub front_same : (a : List ℕ) → IsFrontOf a a
front_same a = record { more = []; is = sym (append-nil a) }

pub goes_nowhere : (c : CodeData) (text bytes out : List ℕ) (reader : Reader) → HasText c text bytes reader → GoesOn c text bytes [] out out reader
goes_nowhere c text bytes out reader has = record {
  given = [];
  appended = sym (append-nil out);
  reads =
      subst (λ (list : List ℕ). HasText c list (bytes ++ []) reader) (sym (append-nil text))
      (subst (λ (list : List ℕ). HasText c text list reader) (sym (append-nil bytes)) has);
}

pub goes_further : (c : CodeData) (text bytes first second all old middle new : List ℕ) (reader later : Reader) → all ≡ first ++ second → GoesOn c text bytes first old middle reader
    → ((t b : List ℕ) → HasText c t b reader → GoesOn c t b second middle new later) → GoesOn c text bytes all old new later
goes_further c text bytes first second all old middle new reader later joined before next =
    let after = next (text ++ first) (bytes ++ before.given) before.reads in
    let texts : (text ++ first) ++ second ≡ text ++ all = append_assoc text first second ∙ ap (λ (list : List ℕ). text ++ list) (sym joined) in
    record {
      given = before.given ++ after.given;
      appended = after.appended ∙ ap (λ (list : List ℕ). list ++ after.given) before.appended ∙ append_assoc old before.given after.given;
      reads =
          subst (λ (list : List ℕ). HasText c list (bytes ++ (before.given ++ after.given)) later) texts
          (subst (λ (list : List ℕ). HasText c ((text ++ first) ++ second) list later) (append_assoc bytes before.given after.given) after.reads);
    }

-- so many bytes more of a piece
pub piece_further : (c : CodeData) (text bytes piece old middle new : List ℕ) (at taken : ℕ) (reader later : Reader) → GoesOn c text bytes (take at piece) old middle reader
    → ((t b : List ℕ) → HasText c t b reader → GoesOn c t b (take taken (take (length piece - at) (drop at piece))) middle new later) → GoesOn c text bytes (take (at + taken) piece) old new later
piece_further c text bytes piece old middle new at taken reader later before next =
    let rest : take (length piece - at) (drop at piece) ≡ drop at piece = take_all (length piece - at) (drop at piece) (omega (arith, length-drop at piece)) in
    let joined : take (at + taken) piece ≡ take at piece ++ take taken (take (length piece - at) (drop at piece)) =
    take-add at taken piece ∙ ap (λ (list : List ℕ). take at piece ++ take taken list) (sym rest) in
    goes_further c text bytes (take at piece) (take taken (take (length piece - at) (drop at piece))) (take (at + taken) piece) old middle new reader later joined before next

pub stops : (c : CodeData) (text bytes piece old new : List ℕ) (at : ℕ) (reader : Reader) → at < length piece → IsBadByte c (get_or piece at 0)
    → GoesOn c text bytes (take at piece) old new reader → StopsAt c piece at
stops c text bytes piece old new at reader inside bad before =
    record { inside = inside; before = (text_parts c text (take at piece) before.reads.clean).1; bad = bad }

-- ---- a new reader

pub part_of_more : (size : ℕ) (part : Part) → 1 ≤ size → IsPart 1 part → IsPart size part
part_of_more size part some none = record { short = omega (arith, some, none.short); below = none.below }

pub nothing_came : (c : CodeData) (reader : Reader) → 0 < c.q → reader.count ≡ 0 → HaveCome c reader.blocks [] → Holds reader.symbols [] → Holds reader.bits [] → HasText c [] [] reader
nothing_came c reader some none came symbols bits = record {
  clean = All-nil (IsDigit c);
  counted = none;
  symbols = record {
    blocks = [];
    rest = [];
    cut = record { all = refl; below = All-nil (IsBlock c); part = some };
    held = symbols;
    decoded = record {
      came = came;
      words = [];
      decoded = record { count = omega arith; each = λ at inside. absurd (omega (arith, inside)) };
      gave = record { rest = []; filled = record { all = refl; below = All-nil (λ b. b < 2 ^ 8); part = omega arith }; held = bits };
    };
  };
}

-- no byte is listed where there is none
pub none_listed : (result : Option ℕ) → ((byte : ℕ) → result ≡ Some byte → ⊥) → listed result ≡ []
none_listed None none = refl
none_listed (Some byte) none = absurd (none byte refl)

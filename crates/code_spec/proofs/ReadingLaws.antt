-- What a text gives is one.
use Rattle.std.proofs.Common.{◌≡◌, ℕ, ◌+◌, ◌*◌, ◌/◌, ◌%◌, suc, ◌<◌, ◌≤◌, ◌^◌, List, ◌∷◌, ◌++◌, length, take, drop, get_or, refl, sym, ap, ◌∙◌, subst, arith, inl, inr}
use Rattle.std.specs.Prelude.{All, Result, Ok, Err, not, false, cond}
use Rattle.std.proofs.Math.Nat.{mod-eq_of_lt, mul-mod_right, mul-div_cancel_left}
use Rattle.std.proofs.Math.Seq.{drop-cons, take-append_seam, drop-append_seam}
use Rattle.std.proofs.lemmas.Bool.{cases_order}
use Rattle.std.proofs.lemmas.List.{ext_get_or, take-append-drop, length-take-le, take-take, get_or-take}
use Rattle.std.proofs.lemmas.List.Elements.{All-head, All-take, All-drop, filter-append}
use Rattle.symbol_base.specs.declared.Block.{Block}
use Rattle.symbol_base.specs.Block.{number_of, symbols_of}
use Rattle.symbol_base.specs.Bits.{byte_bits}
use Rattle.symbol_base.proofs.BlockLemmas.{length-symbols_of, number_of-symbols_of}
use Rattle.symbol_base.proofs.BitsLemmas.{length-byte_bits}
use Rattle.code_spec.specs.declared.fault.EndFault.{EndFault}
use Rattle.code_spec.specs.declared.fault.EndFault.TheVariants.{BadSymbol, TooShort, PartByte}
use Rattle.code_spec.specs.Code.{CodeData}
use Rattle.code_spec.specs.Checked.{IsCheckedCode}
use Rattle.code_spec.specs.Decoder.{window_at, AreDecoded}
use Rattle.code_spec.specs.PlainReading.{is_blank, marks_in, IsDigit, IsChannelText, symbols_in, IsBadAt, IsBlock, AreBlocksOf, AreBytesOf, IsPlainFront, ReadsText, bad_symbol, part_block, too_short, part_byte, reads}
use Rattle.code_spec.proofs.Chunks.{chunks_one}
use Rattle.code_spec.proofs.DecoderLaws.{decoded_single, window_count}

-- a number below the power is that of its symbols
symbols_one : (a q u v : ℕ) → 0 < a → u < a ^ q → v < a ^ q → symbols_of a q u ≡ symbols_of a q v → u ≡ v
symbols_one a q u v some first second same =
    sym (number_of-symbols_of a q u some ∙ mod-eq_of_lt first)
    ∙ ap (λ (list : List ℕ). number_of a list) same
    ∙ number_of-symbols_of a q v some ∙ mod-eq_of_lt second

-- symbols are cut into blocks in one way
pub blocks_one : (c : CodeData) (symbols : List ℕ) (xs ys : List Block) (r s : List ℕ) → 0 < c.constraint.alphabet
    → AreBlocksOf c symbols xs r → AreBlocksOf c symbols ys s → (xs ≡ ys) × (r ≡ s)
blocks_one c symbols xs ys r s some one other =
    chunks_one (λ (block : Block). symbols_of c.constraint.alphabet c.q block.value) c.q (IsBlock c)
    (λ block. length-symbols_of c.constraint.alphabet c.q block.value)
    (λ x y small small' same. ap (λ value. record { value = value }) (symbols_one c.constraint.alphabet c.q x.value y.value some small small' same))
    xs ys r s one.below other.below one.part other.part (sym one.all ∙ other.all)

byte_one : (x y : ℕ) → x < 2 ^ 8 → y < 2 ^ 8 → byte_bits x ≡ byte_bits y → x ≡ y
unfolding byte_bits
byte_one x y first second same = symbols_one 2 8 x y (omega arith) first second same

-- bits are cut into bytes in one way
pub bytes_one : (p : ℕ) (words xs ys r s : List ℕ) → AreBytesOf p words xs r → AreBytesOf p words ys s → (xs ≡ ys) × (r ≡ s)
bytes_one p words xs ys r s one other =
    chunks_one byte_bits 8 (λ byte. byte < 2 ^ 8) length-byte_bits byte_one xs ys r s one.below other.below one.part other.part
    (sym one.all ∙ other.all)

-- the decoder's answers to blocks are one list
pub decoded_one : (c : CodeData) (blocks : List Block) (us vs : List ℕ) → IsCheckedCode c → AreDecoded c blocks us → AreDecoded c blocks vs → us ≡ vs
decoded_one c blocks us vs checked one other =
    let count : length us ≡ length vs = one.count ∙ sym other.count in
    ext_get_or 0 us vs count
    (λ at inside.
    decoded_single c (window_at c blocks at) (get_or us at 0) (get_or vs at 0) checked (window_count c blocks at (omega (arith, inside, one.count)))
    (one.each at inside) (other.each at (omega (arith, inside, count))))

-- what a text gives that may go on is one
pub front_one : (c : CodeData) (text xs ys : List ℕ) → IsCheckedCode c → IsPlainFront c text xs → IsPlainFront c text ys → xs ≡ ys
front_one c text xs ys checked one other =
    let some : 0 < c.constraint.alphabet = omega (arith, checked.code.alphabet) in
    let blocks = (blocks_one c (symbols_in text) one.blocks other.blocks one.rest_symbols other.rest_symbols some one.cut other.cut).0 in
    let decoded = subst (λ (bs : List Block). AreDecoded c bs one.words) blocks one.decoded in
    let words = decoded_one c other.blocks one.words other.words checked decoded other.decoded in
    let filled = subst (λ (ws : List ℕ). AreBytesOf c.p ws xs one.rest_bits) words one.filled in
    (bytes_one c.p other.words xs ys one.rest_bits other.rest_bits filled other.filled).0

-- the marks of a text with a bad byte have it
bad_mark : (c : CodeData) (byte : ℕ) (text : List ℕ) → is_blank byte ≡ false → IsChannelText c (byte ∷ text) → IsDigit c byte
bad_mark c byte text seen all =
    let kept : marks_in (byte ∷ text) ≡ byte ∷ marks_in text = ap (λ blank. cond (not blank) (byte ∷ marks_in text) (marks_in text)) seen in
    All-head (IsDigit c) byte (marks_in text) (subst (λ (marks : List ℕ). All (IsDigit c) marks) kept all)

-- parts of a channel text are channel texts
pub text_parts : (c : CodeData) (xs ys : List ℕ) → IsChannelText c (xs ++ ys) → IsChannelText c xs × IsChannelText c ys
text_parts c xs ys all =
    let front = marks_in xs in
    let back = marks_in ys in
    let both : All (IsDigit c) (front ++ back) =
    subst (λ (marks : List ℕ). All (IsDigit c) marks) (filter-append (λ byte. not (is_blank byte)) xs ys) all in (
      subst (λ (marks : List ℕ). All (IsDigit c) marks) (take-append_seam front back) (All-take (IsDigit c) (length front) (front ++ back) both),
      subst (λ (marks : List ℕ). All (IsDigit c) marks) (drop-append_seam front back) (All-drop (IsDigit c) (length front) (front ++ back) both),
    )

-- a channel text has no bad byte
pub bad_or_text : (c : CodeData) (text : List ℕ) (at : ℕ) → IsBadAt c text at → IsChannelText c text → ⊥
bad_or_text c text at bad all =
    let byte = get_or text at 0 in
    let split : take at text ++ (byte ∷ drop (suc at) text) ≡ text =
    ap (λ (list : List ℕ). take at text ++ list) (sym (drop-cons text at 0 bad.inside)) ∙ take-append-drop at text in
    let behind = (text_parts c (take at text) (byte ∷ drop (suc at) text) (subst (λ (list : List ℕ). IsChannelText c list) (sym split) all)).1 in
    bad.bad (bad_mark c byte (drop (suc at) text) bad.seen behind)

-- the first of two bad bytes stands in what is before the second
bad_before : (c : CodeData) (text : List ℕ) (at later : ℕ) → at < later → IsBadAt c text at → IsBadAt c text later → ⊥
bad_before c text at later first bad worse =
    let same : get_or (take later text) at 0 ≡ get_or text at 0 = get_or-take later text at 0 first in
    bad_or_text c (take later text) at
    (record {
      inside = omega (arith, first, length-take-le later text (omega (arith, worse.inside)));
      before = subst (λ (list : List ℕ). IsChannelText c list) (sym (take-take at later text (omega (arith, first)))) bad.before;
      seen = ap (λ byte. is_blank byte) same ∙ bad.seen;
      bad = λ digit. bad.bad (subst (λ byte. IsDigit c byte) same digit);
    })
    worse.before

bad_one : (c : CodeData) (text : List ℕ) (at other : ℕ) → IsBadAt c text at → IsBadAt c text other → at ≡ other
bad_one c text at other bad bad' =
    elim (cases_order at other) [
      | inl same ↦ same
      | inr apart ↦ elim apart [
        | inl before ↦ absurd (bad_before c text at other before bad bad')
        | inr behind ↦ absurd (bad_before c text other at behind bad' bad)
      ]
    ]

-- whole blocks leave no part of one
whole_or_part : (q count length_of : ℕ) → length_of ≡ q * count → (length_of % q ≡ 0 → ⊥) → ⊥
whole_or_part q count length_of whole part = part (ap (λ n. n % q) whole ∙ mul-mod_right q count)

-- as many symbols are as many blocks
count_one : (q m n length_of : ℕ) → 0 < q → length_of ≡ q * m → length_of ≡ q * n → m ≡ n
count_one q m n length_of some one other =
    sym (mul-div_cancel_left m some) ∙ ap (λ k. k / q) (sym one ∙ other) ∙ mul-div_cancel_left n some

words_one : (c : CodeData) (m n length_of : ℕ) → 0 < c.q → length_of ≡ c.q * (c.past + c.ahead + m) → length_of ≡ c.q * (c.past + c.ahead + n) → m ≡ n
words_one c m n length_of some one other = omega (arith, count_one c.q (c.past + c.ahead + m) (c.past + c.ahead + n) length_of some one other)

-- fewer blocks than lead-in and lead-out have are none with words between them
short_or_words : (c : CodeData) (m n length_of : ℕ) → 0 < c.q → length_of ≡ c.q * m → length_of ≡ c.q * (c.past + c.ahead + n) → m < c.past + c.ahead → ⊥
short_or_words c m n length_of some one other short = omega (arith, short, count_one c.q m (c.past + c.ahead + n) length_of some one other)

over_or_fits : (c : CodeData) (m n : ℕ) → c.p ≤ m * c.p % 8 → n * c.p % 8 < c.p → m ≡ n → ⊥
over_or_fits c m n over fits same = omega (arith, over, fits, ap (λ k. k * c.p % 8) same)

-- a block has a symbol
pub some_symbols : (c : CodeData) → IsCheckedCode c → 0 < c.q
some_symbols c checked = omega (arith, checked.code.p.0, checked.code.q.0)

-- a text gives one answer
pub reading_one : (c : CodeData) (text : List ℕ) (one other : Result (List ℕ) EndFault) → IsCheckedCode c → ReadsText c text one → ReadsText c text other → one ≡ other
reading_one c text one other checked (bad_symbol at bad) (bad_symbol at' bad') = ap (λ n. Err (BadSymbol n)) (bad_one c text at at' bad bad')
reading_one c text one other checked (bad_symbol at bad) (part_block clean part) = absurd (bad_or_text c text at bad clean)
reading_one c text one other checked (bad_symbol at bad) (too_short clean count whole short) = absurd (bad_or_text c text at bad clean)
reading_one c text one other checked (bad_symbol at bad) (part_byte clean count whole over) = absurd (bad_or_text c text at bad clean)
reading_one c text one other checked (bad_symbol at bad) (reads clean count whole fits file front) = absurd (bad_or_text c text at bad clean)
reading_one c text one other checked (part_block clean part) (bad_symbol at bad) = absurd (bad_or_text c text at bad clean)
reading_one c text one other checked (too_short clean count whole short) (bad_symbol at bad) = absurd (bad_or_text c text at bad clean)
reading_one c text one other checked (part_byte clean count whole over) (bad_symbol at bad) = absurd (bad_or_text c text at bad clean)
reading_one c text one other checked (reads clean count whole fits file front) (bad_symbol at bad) = absurd (bad_or_text c text at bad clean)
reading_one c text one other checked (part_block clean part) (part_block clean' part') = refl
reading_one c text one other checked (part_block clean part) (too_short clean' count whole short) = absurd (whole_or_part c.q count (length (symbols_in text)) whole part)
reading_one c text one other checked (part_block clean part) (part_byte clean' count whole over) = absurd (whole_or_part c.q (c.past + c.ahead + count) (length (symbols_in text)) whole part)
reading_one c text one other checked (part_block clean part) (reads clean' count whole fits file front) = absurd (whole_or_part c.q (c.past + c.ahead + count) (length (symbols_in text)) whole part)
reading_one c text one other checked (too_short clean' count whole short) (part_block clean part) = absurd (whole_or_part c.q count (length (symbols_in text)) whole part)
reading_one c text one other checked (part_byte clean' count whole over) (part_block clean part) = absurd (whole_or_part c.q (c.past + c.ahead + count) (length (symbols_in text)) whole part)
reading_one c text one other checked (reads clean' count whole fits file front) (part_block clean part) = absurd (whole_or_part c.q (c.past + c.ahead + count) (length (symbols_in text)) whole part)
reading_one c text one other checked (too_short clean m whole short) (too_short clean' n whole' short') = ap (λ k. Err (TooShort k)) (count_one c.q m n (length (symbols_in text)) (some_symbols c checked) whole whole')
reading_one c text one other checked (too_short clean m whole short) (part_byte clean' n whole' over) = absurd (short_or_words c m n (length (symbols_in text)) (some_symbols c checked) whole whole' short)
reading_one c text one other checked (too_short clean m whole short) (reads clean' n whole' fits file front) = absurd (short_or_words c m n (length (symbols_in text)) (some_symbols c checked) whole whole' short)
reading_one c text one other checked (part_byte clean' n whole' over) (too_short clean m whole short) = absurd (short_or_words c m n (length (symbols_in text)) (some_symbols c checked) whole whole' short)
reading_one c text one other checked (reads clean' n whole' fits file front) (too_short clean m whole short) = absurd (short_or_words c m n (length (symbols_in text)) (some_symbols c checked) whole whole' short)
reading_one c text one other checked (part_byte clean m whole over) (part_byte clean' n whole' over') = ap (λ k. Err (PartByte k)) (words_one c m n (length (symbols_in text)) (some_symbols c checked) whole whole')
reading_one c text one other checked (part_byte clean m whole over) (reads clean' n whole' fits file front) = absurd (over_or_fits c m n over fits (words_one c m n (length (symbols_in text)) (some_symbols c checked) whole whole'))
reading_one c text one other checked (reads clean' n whole' fits file front) (part_byte clean m whole over) = absurd (over_or_fits c m n over fits (words_one c m n (length (symbols_in text)) (some_symbols c checked) whole whole'))
reading_one c text one other checked (reads clean m whole fits xs front) (reads clean' n whole' fits' ys front') = ap (λ (file : List ℕ). Ok file) (front_one c text xs ys checked front front')

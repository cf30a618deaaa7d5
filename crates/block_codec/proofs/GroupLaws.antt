-- Groups of eight blocks: their digits, their windows, and the bytes that their words fill.
use Rattle.std.proofs.Common.{◌≡◌, ℕ, zero, suc, ◌+◌, ◌-◌, ◌*◌, ◌/◌, ◌%◌, ◌<◌, ◌≤◌, ◌^◌, ⊎_elim, List, [], ◌∷◌, ◌++◌, length, get_or, take, drop, map, replicate, refl, sym, ap, ap₂, ◌∙◌, subst, arith, pow-add, mul_comm, append_assoc}
use Rattle.std.specs.Prelude.{All, Bool, not, cond}
use Rattle.std.specs.List.{flat_map}
use Rattle.std.proofs.Math.Nat.{mul-suc, mod-eq_of_lt, div-add-mod, div-div-eq-div-mul}
use Rattle.std.proofs.Math.Seq.{take-append_seam, drop-append_seam, drop-append-add, take-add}
use Rattle.std.specs.Int.{w64, from_le_bytes}
use Rattle.std.proofs.Math.ListN.{get_or-eq_default}
use Rattle.std.proofs.lemmas.Nat.{div-mul-add, le_bytes_8}
use Rattle.std.proofs.lemmas.Bool.{cases_lt}
use Rattle.std.proofs.lemmas.List.{append-nil, length-append, length-drop, length-replicate, length-map, map-append, get_or-map, get_or_append_left, get_or-append-add, get_or_push, take-append-le, take_more, take_all, drop-append-le, drop-drop}
use Rattle.std.proofs.lemmas.List.Concat.{flat_map-append}
use Rattle.std.proofs.lemmas.List.Elements.{All-append, All-map, All-get_or, filter-append}
use Rattle.symbol_base.specs.declared.Block.{Block}
use Rattle.symbol_base.specs.Block.{symbols_of}
use Rattle.symbol_base.specs.Bits.{bits, byte_bits}
use Rattle.symbol_base.proofs.BlockLemmas.{power_positive, length-symbols_of, get_or-symbols_of, IsOver-symbols_of, symbols_of-add}
use Rattle.code_spec.specs.Code.{CodeData}
use Rattle.code_spec.specs.Output.{flat}
use Rattle.code_spec.specs.Decoder.{window_length, window_at, IsDecoded, AreDecoded}
use Rattle.code_spec.specs.PlainReading.{is_blank, marks_in, IsDigit, symbols_in, IsBlock, word_bits}
use Rattle.code_spec.proofs.DecoderLaws.{decoded_below}
use Rattle.code_spec.proofs.OutputLaws.{flat-append}
use Rattle.code_spec.proofs.ReadBack.{not_blank}
use Rattle.block_codec.specs.declared.part.Part.{Part}
use Rattle.block_codec.specs.declared.reader.Reader.{Reader}
use Rattle.block_codec.specs.declared.table_decoder.TableDecoder.{TableDecoder}
use Rattle.block_codec.specs.declared.window_decoder.WindowDecoder.{WindowDecoder}
use Rattle.block_codec.specs.declared.window_decoder.WindowDecoder.TheVariants.{Short}
use Rattle.block_codec.specs.Decoding.{block_of, last_blocks}
use Rattle.block_codec.specs.inside.Answers.{blocks_in, window_of}
use Rattle.block_codec.specs.inside.Digits.{digits_of}
use Rattle.block_codec.specs.inside.Packing.{IsPacked, HasRows}
use Rattle.block_codec.specs.inside.Parts.{Holds}
use Rattle.block_codec.specs.inside.Readers.{HasText, GoesOn, TakesGroups, later_reader}
use Rattle.block_codec.specs.inside.TableDecoding.{HasComeTo}
use Rattle.block_codec.specs.inside.WindowDecoding.{HaveCome}
use Rattle.block_codec.proofs.AnswerLaws.{power_of_power, symbols_push, length-blocks_in}
use Rattle.block_codec.proofs.ReaderLaws.{goes_nowhere, goes_further}

-- ---- numbers and their digits

-- the first digits and the others
pub symbols_of-append : (a m n value : ℕ) → symbols_of a (m + n) value ≡ symbols_of a m (value / a ^ n) ++ symbols_of a n value
symbols_of-append a zero n value =
    let none : zero + n ≡ n = omega arith in
    ap (λ k. symbols_of a k value) none
symbols_of-append a (suc m) n value =
    let next : suc m + n ≡ suc (m + n) = omega arith in
    let turned : m + n ≡ n + m = omega arith in
    let weight : a ^ (m + n) ≡ a ^ n * a ^ m = ap (λ k. a ^ k) turned ∙ pow-add a n m in
    let first : value / a ^ (m + n) % a ≡ value / a ^ n / a ^ m % a = ap (λ w. value / w % a) weight ∙ ap (λ k. k % a) (sym (div-div-eq-div-mul value (a ^ n) (a ^ m))) in
    ap (λ k. symbols_of a k value) next ∙ ap₂ (λ (digit : ℕ) (rest : List ℕ). digit ∷ rest) first (symbols_of-append a m n value)

-- the last digits are those of the remainder
symbols_of-mod : (a n value : ℕ) → 0 < a → symbols_of a n (value % a ^ n) ≡ symbols_of a n value
symbols_of-mod a n value some =
    let whole : value / a ^ n * a ^ n + value % a ^ n ≡ value = ap (λ k. k + value % a ^ n) (mul_comm (value / a ^ n) (a ^ n)) ∙ div-add-mod value (a ^ n) in
    sym (symbols_of-add a n (value / a ^ n) (value % a ^ n) some) ∙ ap (λ k. symbols_of a n k) whole

-- digits behind digits
pub symbols_of-joined : (a m n high low : ℕ) → 0 < a → low < a ^ n → symbols_of a (m + n) (high * a ^ n + low) ≡ symbols_of a m high ++ symbols_of a n low
symbols_of-joined a m n high low some small =
    symbols_of-append a m n (high * a ^ n + low)
    ∙ ap₂ (λ (xs ys : List ℕ). xs ++ ys) (ap (λ k. symbols_of a m k) (div-mul-add high (a ^ n) low small)) (symbols_of-add a n high low some)

-- the digits of digits of b bits are the bits
digits_of_digits : (b n value : ℕ) → flat_map (symbols_of 2 b) (symbols_of (2 ^ b) n value) ≡ symbols_of 2 (b * n) value
digits_of_digits b zero value =
    let none : 0 ≡ b * zero = omega arith in
    ap (λ k. symbols_of 2 k value) none
digits_of_digits b (suc n) value =
    let first : symbols_of 2 b (value / (2 ^ b) ^ n % 2 ^ b) ≡ symbols_of 2 b (value / 2 ^ (b * n)) =
    symbols_of-mod 2 b (value / (2 ^ b) ^ n) (omega arith) ∙ ap (λ w. symbols_of 2 b (value / w)) (power_of_power b n) in
    let count : b + b * n ≡ b * suc n = omega (arith, mul-suc b n) in
    ap₂ (λ (xs ys : List ℕ). xs ++ ys) first (digits_of_digits b n value) ∙ sym (symbols_of-append 2 b (b * n) value) ∙ ap (λ k. symbols_of 2 k value) count

-- ---- numbers and their blocks

pub blocks_in-append : (q m n number : ℕ) → blocks_in q (m + n) number ≡ blocks_in q m (number / 2 ^ (q * n)) ++ blocks_in q n number
blocks_in-append q m n number =
    ap (λ (list : List ℕ). map block_of list) (symbols_of-append (2 ^ q) m n number)
    ∙ map-append block_of (symbols_of (2 ^ q) m (number / (2 ^ q) ^ n)) (symbols_of (2 ^ q) n number)
    ∙ ap (λ w. blocks_in q m (number / w) ++ blocks_in q n number) (power_of_power q n)

pub blocks_in-mod : (q n number : ℕ) → blocks_in q n (number % 2 ^ (q * n)) ≡ blocks_in q n number
blocks_in-mod q n number =
    ap (λ w. blocks_in q n (number % w)) (sym (power_of_power q n)) ∙ ap (λ (list : List ℕ). map block_of list) (symbols_of-mod (2 ^ q) n number (power_positive 2 q (omega arith)))

blocks_in-joined : (q m n high low : ℕ) → low < 2 ^ (q * n) → blocks_in q (m + n) (high * 2 ^ (q * n) + low) ≡ blocks_in q m high ++ blocks_in q n low
blocks_in-joined q m n high low small =
    let weight = power_of_power q n in
    ap (λ w. blocks_in q (m + n) (high * w + low)) (sym weight)
    ∙ ap (λ (list : List ℕ). map block_of list) (symbols_of-joined (2 ^ q) m n high low (power_positive 2 q (omega arith)) (subst (λ w. low < w) (sym weight) small))
    ∙ map-append block_of (symbols_of (2 ^ q) m high) (symbols_of (2 ^ q) n low)

pub drop_front : (k : ℕ) (xs ys : List Block) → length xs ≡ k → drop k (xs ++ ys) ≡ ys
drop_front k xs ys len = subst (λ n. drop n (xs ++ ys) ≡ ys) len (drop-append_seam xs ys)

take_front : (k : ℕ) (xs ys : List Block) → length xs ≡ k → take k (xs ++ ys) ≡ xs
take_front k xs ys len = subst (λ n. take n (xs ++ ys) ≡ xs) len (take-append_seam xs ys)

-- the windows of a number, the last of which is at place `last`
pub window_slice : (c : CodeData) (last at behind here : ℕ) → at + behind ≡ last
    → window_at c (blocks_in c.q (window_length c + last) here) at ≡ window_of c (here / 2 ^ (c.q * behind) % 2 ^ (c.q * window_length c))
window_slice c last at behind here sum =
    let n = window_length c in
    let q = c.q in
    let count : n + last ≡ at + (n + behind) = omega (arith, sum) in
    let front = blocks_in q at (here / 2 ^ (q * (n + behind))) in
    let window = blocks_in q n (here / 2 ^ (q * behind)) in
    let back = blocks_in q behind here in
    let cut : blocks_in q (n + last) here ≡ front ++ (window ++ back) =
    ap (λ k. blocks_in q k here) count ∙ blocks_in-append q at (n + behind) here ∙ ap (λ (bs : List Block). front ++ bs) (blocks_in-append q n behind here) in
    ap (λ (bs : List Block). take n (drop at bs)) cut
    ∙ ap (λ (bs : List Block). take n bs) (drop_front at front (window ++ back) (length-blocks_in q at (here / 2 ^ (q * (n + behind)))))
    ∙ take_front n window back (length-blocks_in q n (here / 2 ^ (q * behind)))
    ∙ sym (blocks_in-mod q n (here / 2 ^ (q * behind)))

-- ---- the words of windows in a row

-- the number of the words of the first k windows
pub record HasWords (c : CodeData) (last here k words : ℕ) : Type 0 where
  pub below : words < 2 ^ (c.p * k)
  pub each : (at : ℕ) → at < k → IsDecoded c (window_at c (blocks_in c.q (window_length c + last) here) at) (get_or (symbols_of (2 ^ c.p) k words) at 0)

pub words_none : (c : CodeData) (last here : ℕ) → HasWords c last here 0 0
words_none c last here = record { below = power_positive 2 (c.p * 0) (omega arith); each = λ at inside. absurd (omega (arith, inside)) }

pub words_more : (c : CodeData) (last here k behind window words entry more : ℕ) → k + behind ≡ last → window ≡ here / 2 ^ (c.q * behind) % 2 ^ (c.q * window_length c) → IsDecoded c (window_of c window) entry
    → more ≡ words * 2 ^ c.p + entry → more < 2 ^ (c.p * (k + 1)) → HasWords c last here k words → HasWords c last here (k + 1) more
words_more c last here k behind window words entry more sum is answer more_is small before =
    let a = 2 ^ c.p in
    let all = blocks_in c.q (window_length c + last) here in
    let front = symbols_of a k words in
    let len : length front ≡ k = length-symbols_of a k words in
    let fits : words % a ^ k ≡ words = ap (λ w. words % w) (power_of_power c.p k) ∙ mod-eq_of_lt before.below in
    let digits : symbols_of a (k + 1) more ≡ front ++ entry ∷ [] =
    ap (λ n. symbols_of a (k + 1) n) (more_is ∙ ap (λ n. n * a + entry) (sym fits)) ∙ symbols_push a k words entry (decoded_below c (window_of c window) entry answer) in
    let here_is : IsDecoded c (window_at c all k) entry =
    subst (λ (bs : List Block). IsDecoded c bs entry) (ap (λ n. window_of c n) is ∙ sym (window_slice c last k behind here sum)) answer in
    record {
      below = small;
      each =
          λ at inside.
          subst (λ (list : List ℕ). IsDecoded c (window_at c all at) (get_or list at 0)) (sym digits)
          (⊎_elim
          (λ (early : at < k).
          subst (λ w. IsDecoded c (window_at c all at) w) (sym (get_or_append_left front (entry ∷ []) 0 at (omega (arith, early, len)))) (before.each at early))
          (λ (late : k ≤ at).
          let last : k ≡ at = omega (arith, late, inside) in
          subst (λ n. IsDecoded c (window_at c all n) (get_or (front ++ entry ∷ []) n 0)) last
          (subst (λ w. IsDecoded c (window_at c all k) w) (sym (get_or_push front entry 0 k len)) here_is))
          (cases_lt at k));
    }

pub words_all : (c : CodeData) (last here words : ℕ) → HasWords c last here (last + 1) words → AreDecoded c (blocks_in c.q (window_length c + last) here) (symbols_of (2 ^ c.p) (last + 1) words)
words_all c last here words has =
    let len = length-symbols_of (2 ^ c.p) (last + 1) words in
    record {
      count = omega (arith, len, length-blocks_in c.q (window_length c + last) here);
      each = λ at inside. has.each at (omega (arith, inside, len));
    }

-- ---- eight blocks that come

-- the number of the last blocks but one window's first, and of the eight that come, has those blocks
pub blocks_joined : (c : CodeData) (window value here : ℕ) (came : List Block) → value < 2 ^ (c.q * 8) → window_length c ≤ length came + 1 → window_of c window ≡ last_blocks (window_length c) came
    → here ≡ window % 2 ^ (c.q * (window_length c - 1)) * 2 ^ (c.q * 8) + value
    → blocks_in c.q (window_length c + 7) here ≡ drop (length came + 1 - window_length c) came ++ blocks_in c.q 8 value
blocks_joined c window value here came small long last is =
    let n = window_length c in
    let k = n - 1 in
    let m = length came in
    let zeros : List Block = replicate n (block_of 0) in
    let count : n + 7 ≡ k + 8 = omega arith in
    let whole : suc k ≡ n = omega arith in
    let low = window % 2 ^ (c.q * k) in
    let place : m + 1 ≡ length zeros + (m + 1 - n) = omega (arith, long, length-replicate {A = Block} n (block_of 0)) in
    let kept : blocks_in c.q k low ≡ drop (m + 1 - n) came =
    blocks_in-mod c.q k window
    ∙ ap (λ j. drop 1 (blocks_in c.q j window)) whole
    ∙ ap (λ (bs : List Block). drop 1 bs) last
    ∙ drop-drop 1 m (zeros ++ came)
    ∙ ap (λ j. drop j (zeros ++ came)) place
    ∙ drop-append-add zeros came (m + 1 - n) in
    ap₂ (λ (i j : ℕ). blocks_in c.q i j) count is ∙ blocks_in-joined c.q k 8 low value small ∙ ap (λ (bs : List Block). bs ++ blocks_in c.q 8 value) kept

-- the same number, made step by step
pub here_made : (c : CodeData) (q length window low here value : ℕ) → q ≡ c.q → length ≡ window_length c → low ≡ window % 2 ^ (q * (length - 1)) → here ≡ low * 2 ^ (q * 8) + value
    → here ≡ window % 2 ^ (c.q * (window_length c - 1)) * 2 ^ (c.q * 8) + value
here_made c q length window low here value same count low_is here_is =
    here_is
    ∙ ap (λ n. n * 2 ^ (q * 8) + value) low_is
    ∙ ap (λ n. window % 2 ^ (q * (n - 1)) * 2 ^ (q * 8) + value) count
    ∙ ap (λ n. window % 2 ^ (n * (window_length c - 1)) * 2 ^ (n * 8) + value) same

-- and its last blocks are the window
pub window_of_eight : (c : CodeData) (value here new : ℕ) (came : List Block) → window_length c ≤ length came + 1 → blocks_in c.q (window_length c + 7) here ≡ drop (length came + 1 - window_length c) came ++ blocks_in c.q 8 value
    → new ≡ here % 2 ^ (c.q * window_length c) → window_of c new ≡ last_blocks (window_length c) (came ++ blocks_in c.q 8 value)
window_of_eight c value here new came long joined is =
    let n = window_length c in
    let m = length came in
    let more = blocks_in c.q 8 value in
    let all = came ++ more in
    let zeros : List Block = replicate n (block_of 0) in
    let len : length all ≡ m + 8 = omega (arith, length-append came more, length-blocks_in c.q 8 value) in
    let front = blocks_in c.q 7 (here / 2 ^ (c.q * n)) in
    let count : n + 7 ≡ 7 + n = omega arith in
    let behind : blocks_in c.q n here ≡ drop 7 (blocks_in c.q (n + 7) here) =
    sym (ap (λ (bs : List Block). drop 7 bs) (ap (λ k. blocks_in c.q k here) count ∙ blocks_in-append c.q 7 n here) ∙ drop_front 7 front (blocks_in c.q n here) (length-blocks_in c.q 7 (here / 2 ^ (c.q * n)))) in
    let later : m + 1 - n + 7 ≡ length all - n = omega (arith, len, long) in
    let whole : length zeros + (length all - n) ≡ length all = omega (arith, len, long, length-replicate {A = Block} n (block_of 0)) in
    ap (λ k. window_of c k) is
    ∙ blocks_in-mod c.q n here
    ∙ behind
    ∙ ap (λ (bs : List Block). drop 7 bs) (joined ∙ sym (drop-append-le (m + 1 - n) came more (omega arith)))
    ∙ drop-drop 7 (m + 1 - n) all
    ∙ ap (λ k. drop k all) later
    ∙ sym (drop-append-add zeros all (length all - n))
    ∙ ap (λ k. drop k (zeros ++ all)) whole

-- the windows that were there before
window_kept : (c : CodeData) (blocks more : List Block) (at : ℕ) → at + window_length c ≤ length blocks → window_at c (blocks ++ more) at ≡ window_at c blocks at
window_kept c blocks more at fits =
    ap (λ (list : List Block). take (window_length c) list) (drop-append-le at blocks more (omega (arith, fits)))
    ∙ take-append-le (window_length c) (drop at blocks) more (omega (arith, fits, length-drop at blocks))

-- the answers to blocks that come are those to the windows that they end
pub decoded_joined : (c : CodeData) (came more : List Block) (words later : List ℕ) → window_length c ≤ length came + 1 → AreDecoded c came words
    → AreDecoded c (drop (length came + 1 - window_length c) came ++ more) later → AreDecoded c (came ++ more) (words ++ later)
decoded_joined c came more words later long before after =
    let n = length came + 1 - window_length c in
    let first : length words ≡ n = omega (arith, before.count, long) in
    let all = came ++ more in
    let within : n ≤ length came = omega arith in
    let count = length-append words later in
    record {
      count = omega (arith, count, first, after.count, length-append (drop n came) more, length-drop n came, length-append came more, long);
      each =
          λ at inside.
          ⊎_elim
          (λ (early : at < length words).
          subst (λ (window : List Block). IsDecoded c window (get_or (words ++ later) at 0)) (sym (window_kept c came more at (omega (arith, early, first, long))))
          (subst (λ w. IsDecoded c (window_at c came at) w) (sym (get_or_append_left words later 0 at early)) (before.each at early)))
          (λ (late : length words ≤ at).
          let j = at - length words in
          let place : n + j ≡ at = omega (arith, late, first) in
          let index : length words + j ≡ at = omega (arith, late) in
          let window : window_at c (drop n came ++ more) j ≡ window_at c all at =
          ap (λ (bs : List Block). window_at c bs j) (sym (drop-append-le n came more within))
          ∙ ap (λ (bs : List Block). take (window_length c) bs) (drop-drop j n all ∙ ap (λ k. drop k all) place) in
          let value : get_or later j 0 ≡ get_or (words ++ later) at 0 = sym (get_or-append-add words later j 0) ∙ ap (λ k. get_or (words ++ later) k 0) index in
          subst (λ w. IsDecoded c (window_at c all at) w) value
          (subst (λ (bs : List Block). IsDecoded c bs (get_or later j 0)) window (after.each j (omega (arith, inside, count, late)))))
          (cases_lt at (length words));
    }

-- ---- the digits of a group

pub packed_none : (digits : List ℕ) → IsPacked 0 (take 0 digits) 0
packed_none digits = record { below = omega arith; digits = refl }

-- eight digits more
pub packed_more : (digits eight : List ℕ) (i value byte more : ℕ) → 8 * i + 8 ≤ length digits → eight ≡ take 8 (drop (8 * i) digits) → eight ≡ digits_of (symbols_of 2 8 byte) → byte < 256
    → more ≡ value * 2 ^ 8 + byte → more < 2 ^ (8 * i + 8) → IsPacked (8 * i) (take (8 * i) digits) value → IsPacked (8 * (i + 1)) (take (8 * (i + 1)) digits) more
packed_more digits eight i value byte more inside is row small more_is below before =
    let next : 8 * i + 8 ≡ 8 * (i + 1) = omega arith in
    let symbols : symbols_of 2 (8 * i + 8) more ≡ symbols_of 2 (8 * i) value ++ symbols_of 2 8 byte =
    ap (λ n. symbols_of 2 (8 * i + 8) n) more_is ∙ symbols_of-joined 2 (8 * i) 8 value byte (omega arith) small in
    let all : take (8 * i + 8) digits ≡ digits_of (symbols_of 2 (8 * i + 8) more) =
    take-add (8 * i) 8 digits
    ∙ ap₂ (λ (xs ys : List ℕ). xs ++ ys) before.digits (sym is ∙ row)
    ∙ sym (map-append (λ symbol. 48 + symbol) (symbols_of 2 (8 * i) value) (symbols_of 2 8 byte))
    ∙ ap (λ (list : List ℕ). digits_of list) (sym symbols) in
    subst (λ n. IsPacked n (take n digits) more) next (record { below = below; digits = all })

-- one row more of the table of digits
pub rows_more : (rows more : List ℕ) (byte row : ℕ) → more ≡ rows ++ row ∷ [] → row ≡ from_le_bytes w64 (digits_of (symbols_of 2 8 byte)) → HasRows byte rows → HasRows (byte + 1) more
rows_more rows more byte row is row_is before = record {
  entries = omega (arith, ap (λ (rs : List ℕ). length rs) is, length-append rows (row ∷ []), before.entries);
  entry =
      λ place inside.
      ⊎_elim
      (λ (early : place < byte).
      ap (λ (rs : List ℕ). get_or rs place 0) is ∙ get_or_append_left rows (row ∷ []) 0 place (omega (arith, early, before.entries)) ∙ before.entry place early)
      (λ (late : byte ≤ place).
      let last : place ≡ byte = omega (arith, late, inside) in
      ap₂ (λ (rs : List ℕ) n. get_or rs n 0) is last ∙ get_or_push rows row 0 byte before.entries ∙ row_is ∙ ap (λ n. from_le_bytes w64 (digits_of (symbols_of 2 8 n))) (sym last))
      (cases_lt place byte);
}

digits_small : (symbols : List ℕ) → All (λ symbol. symbol < 2) symbols → (i : ℕ) → get_or (digits_of symbols) i 0 < 256
digits_small symbols over i =
    ⊎_elim
    (λ (inside : i < length symbols).
    let value : get_or (digits_of symbols) i 0 ≡ 48 + get_or symbols i 0 = get_or-map (λ symbol. 48 + symbol) symbols i 0 0 inside in
    let small : get_or symbols i 0 < 2 = All-get_or (λ symbol. symbol < 2) symbols i 0 inside over in
    omega (arith, value, small))
    (λ (behind : length symbols ≤ i).
    let none : get_or (digits_of symbols) i 0 ≡ 0 = get_or-eq_default (digits_of symbols) 0 (omega (arith, behind, length-map symbols (λ symbol. 48 + symbol))) in
    omega (arith, none))
    (cases_lt i (length symbols))

-- digits with the number of a byte's are the byte's
pub digits_told : (rows digits : List ℕ) (byte number : ℕ) → byte < 256 → HasRows 256 rows → length digits ≡ 8 → ((i : ℕ) → get_or digits i 0 < 256) → number ≡ from_le_bytes w64 digits → get_or rows byte 0 ≡ number
    → digits ≡ digits_of (symbols_of 2 8 byte)
digits_told rows digits byte number small has eight bytes is row =
    let symbols = symbols_of 2 8 byte in
    let len : length (digits_of symbols) ≡ 8 = length-map symbols (λ symbol. 48 + symbol) ∙ length-symbols_of 2 8 byte in
    sym (le_bytes_8 digits number eight bytes is)
    ∙ le_bytes_8 (digits_of symbols) number len (digits_small symbols (IsOver-symbols_of 2 8 byte (omega arith))) (sym row ∙ has.entry byte small)

marks_of_digits : (symbols : List ℕ) → marks_in (digits_of symbols) ≡ digits_of symbols
marks_of_digits [] = refl
marks_of_digits (symbol ∷ symbols) =
    let digits = digits_of symbols in
    ap (λ blank. cond (not blank) ((48 + symbol) ∷ marks_in digits) (marks_in digits)) (not_blank (48 + symbol) (omega arith))
    ∙ ap (λ (list : List ℕ). (48 + symbol) ∷ list) (marks_of_digits symbols)

symbols_again : (symbols : List ℕ) → map (λ byte. byte - 48) (digits_of symbols) ≡ symbols
symbols_again [] = refl
symbols_again (symbol ∷ symbols) =
    let same : 48 + symbol - 48 ≡ symbol = omega arith in
    ap₂ (λ first list. first ∷ list) same (symbols_again symbols)

digits_below : (c : CodeData) (symbols : List ℕ) → All (λ symbol. symbol < c.constraint.alphabet) symbols → All (IsDigit c) (digits_of symbols)
digits_below c symbols below =
    All-map (IsDigit c) (λ symbol. 48 + symbol) symbols
    (λ k d inside. record { least = omega arith; below = omega (arith, below k d inside) })

-- the symbols of a number's blocks are its binary digits
flat_of_group : (c : CodeData) (n value : ℕ) → c.constraint.alphabet ≡ 2 → flat c (blocks_in c.q n value) ≡ symbols_of 2 (c.q * n) value
flat_of_group c n value two = flat_of_values (symbols_of (2 ^ c.q) n value) ∙ digits_of_digits c.q n value
  where
    flat_of_values : (values : List ℕ) → flat c (map block_of values) ≡ flat_map (symbols_of 2 c.q) values
    flat_of_values [] = refl
    flat_of_values (first ∷ values) = ap₂ (λ (a : ℕ) (rest : List ℕ). symbols_of a c.q first ++ rest) two (flat_of_values values)

blocks_of_group : (c : CodeData) (n value : ℕ) → c.constraint.alphabet ≡ 2 → All (IsBlock c) (blocks_in c.q n value)
blocks_of_group c n value two =
    All-map (IsBlock c) block_of (symbols_of (2 ^ c.q) n value)
    (subst (λ a. All (λ v. v < a ^ c.q) (symbols_of (2 ^ c.q) n value)) (sym two) (IsOver-symbols_of (2 ^ c.q) n value (power_positive 2 c.q (omega arith))))

-- the bits of eight words are those of p bytes
bits_of_group : (p words : ℕ) → word_bits p (symbols_of (2 ^ p) 8 words) ≡ bits (symbols_of 256 p words)
unfolding byte_bits
bits_of_group p words =
    let turned : p * 8 ≡ 8 * p = omega arith in
    digits_of_digits p 8 words ∙ ap (λ n. symbols_of 2 n words) turned ∙ sym (digits_of_digits 8 p words)

-- no digits are held where there are none
none_held : (part : Part) (held : List ℕ) → part.count ≡ 0 → Holds part held → held ≡ []
none_held part [] none holds = refl
none_held part (digit ∷ held) none holds = absurd (omega (arith, none, holds.counted))

-- a reader under another name of its decoder
pub same_blocks : (c : CodeData) (text bytes : List ℕ) (reader : Reader) (blocks : WindowDecoder) → reader.blocks ≡ blocks → HasText c text bytes reader
    → HasText c text bytes (record { blocks = blocks; symbols = reader.symbols; bits = reader.bits; digits = reader.digits; count = reader.count })
same_blocks c text bytes reader blocks is has =
    subst (λ (b : WindowDecoder). HasText c text bytes (record { blocks = b; symbols = reader.symbols; bits = reader.bits; digits = reader.digits; count = reader.count })) is has

-- a group of eight blocks goes on, where no symbols and no bits are held
pub group_goes_on : (c : CodeData) (text bytes group out out' : List ℕ) (old new : Reader) (value words : ℕ) → c.constraint.alphabet ≡ 2 → 0 < c.q → IsPacked (c.q * 8) group value
    → old.symbols.count ≡ 0 → old.bits.count ≡ 0 → new.symbols ≡ old.symbols → new.bits ≡ old.bits → new.count ≡ old.count + c.q * 8
    → ((came : List Block) → HaveCome c old.blocks came → HaveCome c new.blocks (came ++ blocks_in c.q 8 value))
    → ((came : List Block) (before : List ℕ) → HaveCome c old.blocks came → AreDecoded c came before → AreDecoded c (came ++ blocks_in c.q 8 value) (before ++ symbols_of (2 ^ c.p) 8 words))
    → out' ≡ out ++ symbols_of 256 c.p words → HasText c text bytes old → GoesOn c text bytes group out out' new
group_goes_on c text bytes group out out' old new value words two some packed no_symbols no_bits same_symbols same_bits count comes decodes put has =
    let more = blocks_in c.q 8 value in
    let symbols = symbols_of 2 (c.q * 8) value in
    let given = symbols_of 256 c.p words in
    let later = symbols_of (2 ^ c.p) 8 words in
    let held = has.symbols in
    let done = held.decoded in
    let keeps : ℕ → Bool = λ b. not (is_blank b) in
    let over : All (λ s. s < c.constraint.alphabet) symbols = subst (λ a. All (λ s. s < a) symbols) (sym two) (IsOver-symbols_of 2 (c.q * 8) value (omega arith)) in
    let own_marks : marks_in group ≡ digits_of symbols = ap (λ (list : List ℕ). marks_in list) packed.digits ∙ marks_of_digits symbols in
    let marks : marks_in (text ++ group) ≡ marks_in text ++ digits_of symbols = filter-append keeps text group ∙ ap (λ (list : List ℕ). marks_in text ++ list) own_marks in
    let read : symbols_in (text ++ group) ≡ symbols_in text ++ symbols =
    ap (λ (list : List ℕ). map (λ b. b - 48) list) marks ∙ map-append (λ b. b - 48) (marks_in text) (digits_of symbols) ∙ ap (λ (list : List ℕ). symbols_in text ++ list) (symbols_again symbols) in
    let no_rest : held.rest ≡ [] = none_held old.symbols held.rest no_symbols held.held in
    let no_bits_rest : done.gave.rest ≡ [] = none_held old.bits done.gave.rest no_bits done.gave.held in
    let before : symbols_in text ≡ flat c held.blocks = held.cut.all ∙ ap (λ (list : List ℕ). flat c held.blocks ++ list) no_rest ∙ append-nil (flat c held.blocks) in
    let before_bits : word_bits c.p done.words ≡ bits bytes = done.gave.filled.all ∙ ap (λ (list : List ℕ). bits bytes ++ list) no_bits_rest ∙ append-nil (bits bytes) in
    let blocks : symbols_in (text ++ group) ≡ flat c (held.blocks ++ more) ++ [] =
    read ∙ ap₂ (λ (xs ys : List ℕ). xs ++ ys) before (sym (flat_of_group c 8 value two)) ∙ sym (flat-append c held.blocks more) ∙ sym (append-nil (flat c (held.blocks ++ more))) in
    let filled : word_bits c.p (done.words ++ later) ≡ bits (bytes ++ given) ++ [] =
    flat_map-append (symbols_of 2 c.p) done.words later ∙ ap₂ (λ (xs ys : List ℕ). xs ++ ys) before_bits (bits_of_group c.p words) ∙ sym (flat_map-append byte_bits bytes given) ∙ sym (append-nil (bits (bytes ++ given))) in
    let no_part : Holds new.symbols [] =
    subst (λ (part : Part). Holds part []) (sym same_symbols) (subst (λ (list : List ℕ). Holds old.symbols list) no_rest held.held) in
    let no_bit : Holds new.bits [] =
    subst (λ (part : Part). Holds part []) (sym same_bits) (subst (λ (list : List ℕ). Holds old.bits list) no_bits_rest done.gave.held) in
    record {
      given = given;
      appended = put;
      reads =
          record {
            clean = subst (λ (list : List ℕ). All (IsDigit c) list) (sym marks) (All-append (IsDigit c) (marks_in text) (digits_of symbols) has.clean (digits_below c symbols over));
            counted = omega (arith, count, has.counted, ap (λ (list : List ℕ). length list) read, length-append (symbols_in text) symbols, length-symbols_of 2 (c.q * 8) value);
            symbols =
                record {
                  blocks = held.blocks ++ more;
                  rest = [];
                  cut = record { all = blocks; below = All-append (IsBlock c) held.blocks more held.cut.below (blocks_of_group c 8 value two); part = some };
                  held = no_part;
                  decoded =
                      record {
                        came = comes held.blocks done.came;
                        words = done.words ++ later;
                        decoded = decodes held.blocks done.words done.came done.decoded;
                        gave =
                            record {
                              rest = [];
                              filled = record { all = filled; below = All-append (λ b. b < 2 ^ 8) bytes given done.gave.filled.below (IsOver-symbols_of 256 c.p words (omega arith)); part = omega arith };
                              held = no_bit;
                            };
                      };
                };
          };
    }

-- nothing was taken yet
pub nothing_taken : (c : CodeData) (decoder : TableDecoder) (piece out : List ℕ) → TakesGroups c decoder decoder piece 0 out out
nothing_taken c decoder piece out = λ text bytes reader is no_symbols no_bits has.
    let none : reader.count ≡ reader.count + 0 = omega arith in
    goes_nowhere c text bytes out (later_reader reader decoder 0)
    (subst (λ n. HasText c text bytes (record { blocks = Short decoder; symbols = reader.symbols; bits = reader.bits; digits = reader.digits; count = n })) none
    (same_blocks c text bytes reader (Short decoder) is has))

-- eight blocks more were taken
pub eight_taken : (c : CodeData) (decoder later next : TableDecoder) (piece old middle new : List ℕ) (at size value words : ℕ) → c.constraint.alphabet ≡ 2 → 0 < c.q → size ≡ c.q * 8
    → IsPacked size (take size (drop at piece)) value → new ≡ middle ++ symbols_of 256 c.p words
    → ((came : List Block) → HasComeTo c later came → HasComeTo c next (came ++ blocks_in c.q 8 value))
    → ((came : List Block) (before : List ℕ) → HasComeTo c later came → AreDecoded c came before → AreDecoded c (came ++ blocks_in c.q 8 value) (before ++ symbols_of (2 ^ c.p) 8 words))
    → TakesGroups c decoder later piece at old middle → TakesGroups c decoder next piece (at + size) old new
eight_taken c decoder later next piece old middle new at size value words two some whole packed put comes decodes before = λ text bytes reader is no_symbols no_bits has.
    let group = take size (drop at piece) in
    let count : reader.count + (at + size) ≡ reader.count + at + c.q * 8 = omega (arith, whole) in
    goes_further c text bytes (take at piece) group (take (at + size) piece) old middle new (later_reader reader later at) (later_reader reader next (at + size)) (take-add at size piece)
    (before text bytes reader is no_symbols no_bits has)
    (λ front given held.
    group_goes_on c front given group middle new (later_reader reader later at) (later_reader reader next (at + size)) value words two some (subst (λ n. IsPacked n group value) whole packed)
    no_symbols no_bits refl refl count comes decodes put held)

-- one byte more of a number's bytes
pub bytes_put : (old now new : List ℕ) (p j behind words byte : ℕ) → j < p → behind ≡ p - 1 - j → now ≡ old ++ take j (symbols_of 256 p words) → byte ≡ words / 2 ^ (8 * behind) % 256
    → new ≡ now ++ byte ∷ [] → new ≡ old ++ take (j + 1) (symbols_of 256 p words)
bytes_put old now new p j behind words byte inside is so_far value put =
    let all = symbols_of 256 p words in
    let here : byte ≡ get_or all j 0 =
    value ∙ ap (λ n. words / 2 ^ (8 * n) % 256) is ∙ ap (λ w. words / w % 256) (sym (power_of_power 8 (p - 1 - j))) ∙ sym (get_or-symbols_of 256 p words j 0 inside) in
    put
    ∙ ap₂ (λ (list : List ℕ) b. list ++ b ∷ []) so_far here
    ∙ append_assoc old (take j all) (get_or all j 0 ∷ [])
    ∙ ap (λ (list : List ℕ). old ++ list) (sym (take_more all j 0 (omega (arith, inside, length-symbols_of 256 p words))))

pub bytes_all : (old : List ℕ) (p j words : ℕ) → j ≡ p → old ++ take j (symbols_of 256 p words) ≡ old ++ symbols_of 256 p words
bytes_all old p j words end = ap (λ (list : List ℕ). old ++ list) (take_all j (symbols_of 256 p words) (omega (arith, end, length-symbols_of 256 p words)))

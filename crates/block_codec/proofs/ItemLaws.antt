-- Items of data that are put by a table, one behind the other.
use Rattle.std.proofs.Common.{◌≡◌, ℕ, ◌+◌, ◌-◌, ◌*◌, ◌/◌, ◌<◌, ◌≤◌, List, [], ◌∷◌, ◌++◌, length, take, get_or, map, sym, ap, ◌∙◌, subst, arith}
use Rattle.std.specs.List.{range_with_len}
use Rattle.std.proofs.Math.Nat.{mul-div_cancel_left, mul-le-mul_left, div-mul-le_self}
use Rattle.std.proofs.lemmas.Nat.{mul-add-lt, le-div}
use Rattle.std.proofs.Math.Seq.{take-append-add}
use Rattle.std.proofs.lemmas.List.{length-append, length-take-le, take_more, take-take}
use Rattle.std.proofs.lemmas.Slice.{take-put_mid}
use borrow.Rule.Slice.PartMut.{put_mid}
use Rattle.std.proofs.lemmas.List.FromFn.{map-range_with_len_more, length-map-range_with_len}
use Rattle.symbol_base.specs.Bits.{bits, word_at}
use Rattle.code_spec.specs.Code.{CodeData, IsState}
use Rattle.code_spec.specs.Output.{state_after}
use Rattle.code_spec.specs.PlainText.{word_count, file_words}
use Rattle.code_spec.proofs.OutputLaws.{state_after-append}
use Rattle.code_spec.proofs.PlainTextLaws.{length-file_words}
use Rattle.code_spec.proofs.FileWords.{file_words-append, word_count-whole}
use Rattle.block_codec.specs.inside.Digits.{PutsDigits}
use Rattle.block_codec.specs.inside.Tables.{IsEntry, IsTable, byte_words}
use Rattle.block_codec.proofs.DigitLaws.{puts_none, puts_then}

-- The words so far are put; the next digits go to a place of the room, and the entries of the next state begin
-- at a place of the table.
pub record PutsByTable (c : CodeData) (size state : ℕ) (words : List ℕ) (from : ℕ) (old new : List ℕ) (at place : ℕ) : Type 0 where
  pub puts : PutsDigits c state words from old new (state_after c.rows state words)
  pub behind : at ≡ from + c.q * length words
  pub begins : place ≡ size * state_after c.rows state words

-- no words
pub by_table_none : (c : CodeData) (size state from : ℕ) (room : List ℕ) (at place : ℕ) → IsState c state → at ≡ from → place ≡ size * state → PutsByTable c size state [] from room room at place
by_table_none c size state from room at place inside here starts =
    record { puts = puts_none c state from room inside; behind = here ∙ omega arith; begins = starts }

-- the entry of an item is in the table
pub entry_inside : (c : CodeData) (size state from : ℕ) (words old new : List ℕ) (at place item : ℕ) → PutsByTable c size state words from old new at place → item < size
    → place + item < size * length c.rows
entry_inside c size state from words old new at place item so_far small =
    let there = state_after c.rows state words in
    let bound : there * size + item < size * length c.rows = mul-add-lt there size item (length c.rows) so_far.puts.inside small in
    omega (arith, bound, so_far.begins)

-- one item more
pub by_table_more :
    (c : CodeData) (words_of : ℕ → List ℕ) (size state from width : ℕ) (lanes : List (List ℕ)) (next words all old mid new : List ℕ) (at there place item to : ℕ)
    → IsTable c words_of size lanes next → PutsByTable c size state words from old mid at place → item < size → c.q * length (words_of item) ≤ width
    → ((n : ℕ) → n ≤ width → take (at + n) new ≡ take at mid ++ take n (get_or lanes (place + item) [])) → length new ≡ length mid
    → to ≡ get_or next (place + item) 0 → there ≡ at + c.q * length (words_of item) → words ++ words_of item ≡ all → PutsByTable c size state all from old new there to
by_table_more c words_of size state from width lanes next words all old mid new at there place item to table so_far small short put len to_is there_is whole =
    let via = state_after c.rows state words in
    let more = words_of item in
    let entry : IsEntry c more size via (get_or lanes (size * via + item) []) (get_or next (size * via + item) 0) = table.entry via item so_far.puts.inside small in
    let here : place + item ≡ size * via + item = ap (λ (n : ℕ). n + item) so_far.begins in
    let after : state_after c.rows via more ≡ state_after c.rows state all = sym (state_after-append c.rows state words more) ∙ ap (λ (ws : List ℕ). state_after c.rows state ws) whole in
    let item_put : PutsDigits c via more at mid new (state_after c.rows state all) = record {
      digits = put (c.q * length more) short ∙ ap (λ (n : ℕ). take at mid ++ take (c.q * length more) (get_or lanes n [])) here ∙ ap (λ (ds : List ℕ). take at mid ++ ds) entry.digits;
      leads = sym after;
      inside = subst (λ (n : ℕ). IsState c n) after entry.inside;
      len = len;
    } in
    let count : length all ≡ length words + length more = ap length (sym whole) ∙ length-append words more in
    let sum : c.q * (length words + length more) ≡ c.q * length words + c.q * length more = grind arith in
    record {
      puts = puts_then c state via (state_after c.rows state all) from at words more all old mid new whole so_far.behind so_far.puts item_put;
      behind = there_is ∙ omega (arith, so_far.behind, sum) ∙ ap (λ (n : ℕ). from + c.q * n) (sym count);
      begins = to_is ∙ ap (λ (n : ℕ). get_or next n 0) here ∙ entry.leads ∙ ap (λ (n : ℕ). size * n) after;
    }

-- all words are put, and the place tells the state that they lead to
pub by_table_all :
    (c : CodeData) (size state from : ℕ) (words all old new : List ℕ) (at place next : ℕ) → PutsByTable c size state words from old new at place → words ≡ all → 0 < size → next ≡ place / size
    → PutsDigits c state all from old new next
by_table_all c size state from words all old new at place next so_far whole some next_is =
    let there = state_after c.rows state words in
    let leads : next ≡ there = next_is ∙ ap (λ (n : ℕ). n / size) so_far.begins ∙ mul-div_cancel_left there some in
    subst (λ (ws : List ℕ). PutsDigits c state ws from old new next) whole (subst (λ (n : ℕ). PutsDigits c state words from old new n) (sym leads) so_far.puts)

-- more bits have no fewer words
pub word_count-le : (p some many : ℕ) → 0 < p → some ≤ many → word_count p some ≤ word_count p many
word_count-le p some many positive less =
    le-div (word_count p some) (many + (p - 1)) p positive (omega (arith, less, div-mul-le_self (some + (p - 1)) p))

-- there is room for a lane behind the words so far
pub room_for_lane : (q at from done all room : ℕ) → at ≡ from + q * done → done ≤ all → from + q * all + 32 ≤ room → at + 32 ≤ room
room_for_lane q at from done all room here within fits =
    let less : q * done ≤ q * all = mul-le-mul_left q within in
    omega (arith, less, here, fits)

-- the words of the first bytes are no more than those of all
pub words_of_front : (p : ℕ) (bytes : List ℕ) (i : ℕ) → 0 < p → i ≤ length bytes → length (file_words p (take i bytes)) ≤ word_count p (8 * length bytes)
words_of_front p bytes i some within =
    let count : length (file_words p (take i bytes)) ≡ word_count p (8 * i) = length-file_words p (take i bytes) ∙ ap (λ (n : ℕ). word_count p (8 * n)) (length-take-le i bytes within) in
    omega (arith, count, word_count-le p (8 * i) (8 * length bytes) some (omega (arith, within)))

-- no bytes have no words
pub file_words-none : (p : ℕ) (bytes : List ℕ) → 0 < p → bytes ≡ [] → file_words p bytes ≡ []
file_words-none p bytes some none =
    let zero_words : word_count p 0 ≡ 0 = ap (λ (n : ℕ). word_count p n) (omega arith) ∙ word_count-whole p 0 some in
    ap (λ (bs : List ℕ). file_words p bs) none ∙ ap (λ (n : ℕ). map (λ j. word_at (bits []) (p * j) p) (range_with_len 0 n)) zero_words

-- where words fill a byte, one byte more
pub bytes_more : (p k : ℕ) (bytes : List ℕ) (i byte : ℕ) → 0 < p → 8 ≡ p * k → i < length bytes → byte ≡ get_or bytes i 0
    → file_words p (take i bytes) ++ byte_words p byte ≡ file_words p (take (i + 1) bytes)
unfolding byte_words
bytes_more p k bytes i byte some fills inside same =
    let len : length (take i bytes) ≡ i = length-take-le i bytes (omega (arith, inside)) in
    let regroup : p * k * i ≡ p * (k * i) = grind arith in
    let filled : 8 * length (take i bytes) ≡ p * (k * i) = ap (λ (n : ℕ). 8 * n) len ∙ ap (λ (n : ℕ). n * i) fills ∙ regroup in
    sym (file_words-append p (k * i) (take i bytes) (byte ∷ []) some filled)
    ∙ ap (λ (b : ℕ). file_words p (take i bytes ++ b ∷ [])) same
    ∙ ap (λ (bs : List ℕ). file_words p bs) (sym (take_more bytes i 0 inside))

-- the first n words of bytes
abbrev pub words_to : ℕ → List ℕ → ℕ → List ℕ
words_to p bytes n = map (λ j. word_at (bits bytes) (p * j) p) (range_with_len 0 n)

-- one word more
pub words_more : (p : ℕ) (bytes : List ℕ) (n word : ℕ) → word ≡ word_at (bits bytes) (p * n) p → words_to p bytes n ++ word ∷ [] ≡ words_to p bytes (n + 1)
words_more p bytes n word same =
    ap (λ (w : ℕ). words_to p bytes n ++ w ∷ []) same ∙ sym (map-range_with_len_more (λ j. word_at (bits bytes) (p * j) p) 0 n n (omega arith))

pub length-words_to : (p : ℕ) (bytes : List ℕ) (n : ℕ) → length (words_to p bytes n) ≡ n
length-words_to p bytes n = length-map-range_with_len (λ j. word_at (bits bytes) (p * j) p) 0 n

-- the front of a lane that is put into a room
pub lane_put : (at width : ℕ) (room lane : List ℕ) (n : ℕ) → at + width ≤ length room → length lane ≡ width → n ≤ width
    → take (at + n) (put_mid at width room lane) ≡ take at room ++ take n lane
lane_put at width room lane n fits long short =
    let whole : take (at + width) (put_mid at width room lane) ≡ take at room ++ lane = take-put_mid at width room lane (at + width) (omega (arith, long)) (omega (arith, fits)) in
    let front_len : length (take at room) ≡ at = length-take-le at room (omega (arith, fits)) in
    sym (take-take (at + n) (at + width) (put_mid at width room lane) (omega (arith, short)))
    ∙ ap (λ (ds : List ℕ). take (at + n) ds) whole
    ∙ ap (λ (m : ℕ). take (m + n) (take at room ++ lane)) (sym front_len)
    ∙ take-append-add (take at room) lane n

-- the entries of the next state are in the table
pub entries_inside : (c : CodeData) (size state from : ℕ) (words old new : List ℕ) (at place : ℕ) → PutsByTable c size state words from old new at place → place + size ≤ size * length c.rows
entries_inside c size state from words old new at place so_far =
    let there = state_after c.rows state words in
    let next : there + 1 ≤ length c.rows = omega (arith, so_far.puts.inside) in
    let less : size * (there + 1) ≤ size * length c.rows = mul-le-mul_left size next in
    let one : size * (there + 1) ≡ size * there + size = grind arith in
    omega (arith, less, one, so_far.begins)

-- a table under other names of its lists
pub table_named : (c : CodeData) (words_of : ℕ → List ℕ) (size : ℕ) (lanes lanes' : List (List ℕ)) (next next' : List ℕ) → lanes' ≡ lanes → next' ≡ next → IsTable c words_of size lanes next → IsTable c words_of size lanes' next'
table_named c words_of size lanes lanes' next next' same_lanes same_next table =
    subst (λ (ls : List (List ℕ)). IsTable c words_of size ls next') (sym same_lanes) (subst (λ (ns : List ℕ). IsTable c words_of size lanes ns) (sym same_next) table)

-- the words of a byte, counted
pub length-byte_words : (p byte : ℕ) → length (byte_words p byte) ≡ word_count p 8
unfolding byte_words
length-byte_words p byte = length-file_words p (byte ∷ [])

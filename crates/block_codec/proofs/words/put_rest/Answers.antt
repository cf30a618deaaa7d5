use Rattle.std.proofs.Common.{◌≡◌, ◌+◌, ◌*◌, ◌/◌, ◌^◌, ◌<◌, ◌≤◌, length, List, ℕ, refl, arith, ap, subst, ◌∙◌}
use Rattle.symbol_base.specs.Bits.{bits, word_at}
use Rattle.symbol_base.proofs.BlockLemmas.{power_positive}
use Rattle.code_spec.specs.Code.{CodeData}
use Rattle.code_spec.specs.PlainText.{word_count, file_words}
use Rattle.block_codec.specs.inside.Tables.{one_word}
use Rattle.block_codec.proofs.ItemLaws.{by_table_none, by_table_more, by_table_all, entries_inside, room_for_lane, words_to, words_more, length-words_to, table_named}
use Rattle.block_codec.proofs.words.put_rest.Goals as goal

pub loop-j-init : goal.loop-j-init
loop-j-init c =
    let code = c.args.code.now in
    let room = c.args.room.now in
    let size : ℕ = 2 ^ code.p in
    let place : ℕ = c.word_count.result * c.index.result in
    let begins : place ≡ size * c.args.state = ap (λ (n : ℕ). n * c.index.result) c.word_count.ensures.count ∙ ap (λ (n : ℕ). size * n) c.index.ensures.value in
    let none = by_table_none code size c.args.state c.args.at room c.args.at place c.requires.state refl begins in
    let lanes = ap (λ (ds : List (List ℕ)). length ds) c.as_slice-lanes.ensures.value in
    record {
      by_table = none;
      fits = omega (arith, c.requires.room);
      entries = omega (arith, entries_inside code size c.args.state c.args.at _ room room c.args.at place none, lanes, c.requires.table.lanes_len);
    }

pub loop-j-preserved : goal.loop-j-preserved
loop-j-preserved c =
    let code = c.args.code.now in
    let bytes = c.args.bytes.now in
    let size : ℕ = 2 ^ code.p in
    let p = c.code.inside.p in
    let j = c.loop-j.j in
    let at = c.loop-j.at in
    let word = c.take_word-word.result in
    let lanes_are = c.as_slice-lanes.ensures.value in
    let p_is : p ≡ code.p = ap (λ (d : CodeData). d.p) c.code.view_is in
    let q_is : c.code.inside.q ≡ code.q = ap (λ (d : CodeData). d.q) c.code.view_is in
    let word_is : word ≡ word_at (bits bytes) (code.p * j) code.p =
    c.take_word-word.ensures.value ∙ ap (λ (n : ℕ). word_at (bits bytes) (n * j) p) c.from.ensures ∙ ap (λ (n : ℕ). word_at (bits bytes) (n * j) n) p_is in
    let small : word < size = subst (λ (n : ℕ). word < 2 ^ n) p_is c.take_word-word.ensures.below in
    let one : code.q * length (one_word word) ≡ code.q = omega arith in
    let there : at + c.code.inside.q ≡ at + code.q * length (one_word word) = omega (arith, one, q_is) in
    let made = c.put_item-place.ensures in
    let by_table = by_table_more code one_word size c.args.state c.args.at 32 c.as_slice-lanes.result.now c.as_slice-next.result.now (words_to code.p bytes j) (words_to code.p bytes (j + 1))
    c.args.room.now c.loop-j.room c.put_item-place.new.room at (at + c.code.inside.q) c.loop-j.place word c.put_item-place.result
    (table_named code one_word size c.args.table.now.lanes.items c.as_slice-lanes.result.now c.args.table.now.next.items c.as_slice-next.result.now lanes_are c.as_slice-next.ensures.value c.requires.table)
    c.loop-j.invariant.by_table small (omega (arith, one, c.word_count.ensures.table.q)) made.lane made.len made.next there (words_more code.p bytes j word word_is) in
    let count : c.count_words-j-end.result ≡ word_count code.p (8 * length bytes) = c.count_words-j-end.ensures.count ∙ ap (λ (n : ℕ). word_count n (8 * length bytes)) p_is in
    let within : length (words_to code.p bytes (j + 1)) ≤ word_count code.p (8 * length bytes) = omega (arith, length-words_to code.p bytes (j + 1), c.loop-j-test.true, count) in
    let lanes = ap (λ (ds : List (List ℕ)). length ds) lanes_are in
    record {
      by_table = by_table;
      fits = room_for_lane code.q (at + c.code.inside.q) c.args.at (length (words_to code.p bytes (j + 1))) (word_count code.p (8 * length bytes)) (length c.put_item-place.new.room)
          by_table.behind within (omega (arith, c.requires.room, by_table.puts.len));
      entries = omega (arith, entries_inside code size c.args.state c.args.at _ _ _ _ _ by_table, lanes, c.requires.table.lanes_len);
    }

pub returns : goal.returns
returns c =
    let code = c.args.code.now in
    let bytes = c.args.bytes.now in
    let j = c.loop-j.j in
    let count : c.count_words-j-end.result ≡ word_count code.p (8 * length bytes) = c.count_words-j-end.ensures.count ∙ ap (λ (d : CodeData). word_count d.p (8 * length bytes)) c.code.view_is in
    let all : j ≡ word_count code.p (8 * length bytes) = omega (arith, count, c.loop-j-test.false, c.loop-j.auto.j-end) in
    by_table_all code (2 ^ code.p) c.args.state c.args.at (words_to code.p bytes j) (file_words code.p bytes) c.args.room.now c.loop-j.room c.loop-j.at c.loop-j.place c.at.result
    c.loop-j.invariant.by_table (ap (λ (n : ℕ). words_to code.p bytes n) all) (power_positive 2 code.p (omega arith))
    (c.at.ensures.value ∙ ap (λ (d : CodeData). c.loop-j.place / 2 ^ d.p) c.code.view_is)

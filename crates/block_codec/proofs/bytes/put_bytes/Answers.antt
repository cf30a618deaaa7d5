use Rattle.std.proofs.Common.{◌≡◌, ◌+◌, ◌*◌, ◌<◌, take, length, List, ℕ, refl, arith, ap, sym, subst}
use Rattle.std.proofs.lemmas.List.{take_all}
use Rattle.code_spec.specs.PlainText.{word_count, file_words}
use Rattle.block_codec.specs.inside.Tables.{byte_words}
use Rattle.block_codec.proofs.ItemLaws.{PutsByTable, by_table_none, by_table_more, by_table_all, entries_inside, room_for_lane, words_of_front, file_words-none, bytes_more, length-byte_words, table_named}
use Rattle.block_codec.proofs.bytes.put_bytes.Goals as goal

pub loop-byte-init : goal.loop-byte-init
loop-byte-init c =
    let code = c.args.code.now in
    let room = c.args.room.now in
    let place : ℕ = 256 * c.index-place.result in
    let some : 0 < code.p = omega (arith, c.requires.table.table.code.p) in
    let begins : place ≡ 256 * c.args.state = omega (arith, c.index-place.ensures.value) in
    let none = by_table_none code 256 c.args.state 0 room 0 place c.requires.state refl begins in
    let lanes = ap (λ (ds : List (List ℕ)). length ds) c.as_slice-lanes.ensures.value in
    record {
      by_table = subst (λ (words : List ℕ). PutsByTable code 256 c.args.state words 0 room room 0 place) (sym (file_words-none code.p (take 0 c.args.bytes.now) some refl)) none;
      fits = omega (arith, c.requires.room);
      entries = omega (arith, entries_inside code 256 c.args.state 0 _ room room 0 place none, lanes, c.requires.table.table.lanes_len);
    }

pub loop-byte-preserved : goal.loop-byte-preserved
loop-byte-preserved c =
    let code = c.args.code.now in
    let bytes = c.args.bytes.now in
    let table = c.requires.table in
    let i = c.loop-byte.byte-index in
    let byte = c.from.result in
    let at = c.loop-byte.at in
    let lanes_are = c.as_slice-lanes.ensures.value in
    let some : 0 < code.p = omega (arith, table.table.code.p) in
    let more = bytes_more code.p (word_count code.p 8) bytes i byte some table.bytes.fills c.loop-byte-test.true c.from.ensures in
    let count : code.q * length (byte_words code.p byte) ≡ code.q * word_count code.p 8 = ap (λ (n : ℕ). code.q * n) (length-byte_words code.p byte) in
    let there : at + c.digit_count-step.result ≡ at + code.q * length (byte_words code.p byte) = omega (arith, count, c.digit_count-step.ensures.count) in
    let made = c.put_item-place.ensures in
    let by_table = by_table_more code (byte_words code.p) 256 c.args.state 0 16 c.as_slice-lanes.result.now c.as_slice-next.result.now (file_words code.p (take i bytes)) (file_words code.p (take (i + 1) bytes))
    c.args.room.now c.loop-byte.room c.put_item-place.new.room at (at + c.digit_count-step.result) c.loop-byte.place byte c.put_item-place.result
    (table_named code (byte_words code.p) 256 c.args.table.now.lanes.items c.as_slice-lanes.result.now c.args.table.now.next.items c.as_slice-next.result.now lanes_are c.as_slice-next.ensures.value table.table)
    c.loop-byte.invariant.by_table (omega (arith, c.from.ensures, c.type_inv.bytes i)) (omega (arith, count, table.bytes.short)) made.lane made.len made.next there more in
    let within = words_of_front code.p bytes (i + 1) some (omega (arith, c.loop-byte-test.true)) in
    let lanes = ap (λ (ds : List (List ℕ)). length ds) lanes_are in
    record {
      by_table = by_table;
      fits = room_for_lane code.q (at + c.digit_count-step.result) 0 (length (file_words code.p (take (i + 1) bytes))) (word_count code.p (8 * length bytes)) (length c.put_item-place.new.room)
          by_table.behind within (omega (arith, c.requires.room, by_table.puts.len));
      entries = omega (arith, entries_inside code 256 c.args.state 0 _ _ _ _ _ by_table, lanes, table.table.lanes_len);
    }

pub returns : goal.returns
returns c =
    let code = c.args.code.now in
    let bytes = c.args.bytes.now in
    let i = c.loop-byte.byte-index in
    let whole = ap (λ (bs : List ℕ). file_words code.p bs) (take_all i bytes (omega arith)) in
    by_table_all code 256 c.args.state 0 (file_words code.p (take i bytes)) (file_words code.p bytes) c.args.room.now c.loop-byte.room c.loop-byte.at c.loop-byte.place c.at.result
    c.loop-byte.invariant.by_table whole (omega arith) c.at.ensures.value

use Rattle.std.proofs.Common.{◌≡◌, ◌+◌, ◌-◌, ◌*◌, ◌/◌, ◌%◌, ◌^◌, ◌<◌, ◌≤◌, length, List, ℕ, refl, arith, ap, sym, subst, ◌∙◌}
use Rattle.symbol_base.specs.Bits.{bits, word_at}
use Rattle.symbol_base.proofs.BlockLemmas.{power_positive}
use Rattle.code_spec.specs.Code.{CodeData}
use Rattle.code_spec.specs.PlainText.{word_count, file_words}
use Rattle.block_codec.specs.inside.Tables.{one_word}
use Rattle.block_codec.proofs.NumberLaws.{word_of_group, bytes_small, words_of_group}
use Rattle.block_codec.proofs.ItemLaws.{by_table_none, by_table_more, by_table_all, entries_inside, room_for_lane, words_to, words_more, length-words_to, table_named}
use Rattle.block_codec.proofs.words.put_group.Goals as goal

pub loop-k-init : goal.loop-k-init
loop-k-init c =
    let code = c.args.code.now in
    let room = c.args.room.now in
    let size : ℕ = 2 ^ code.p in
    let place : ℕ = c.word_count.result * c.index.result in
    let begins : place ≡ size * c.args.state = ap (λ (n : ℕ). n * c.index.result) c.word_count.ensures.count ∙ ap (λ (n : ℕ). size * n) c.index.ensures.value in
    let none = by_table_none code size c.args.state c.args.at room c.args.at place c.requires.state refl begins in
    let lanes = ap (λ (ds : List (List ℕ)). length ds) c.as_slice-lanes.ensures.value in
    record {
      by_table = none;
      fits = omega (arith, c.requires.room);
      entries = omega (arith, entries_inside code size c.args.state c.args.at _ room room c.args.at place none, lanes, c.requires.table.lanes_len);
    }

pub loop-k-preserved : goal.loop-k-preserved
loop-k-preserved c =
    let code = c.args.code.now in
    let group = c.args.group.now in
    let size : ℕ = 2 ^ code.p in
    let p = c.code.inside.p in
    let k = c.loop-k.k in
    let at = c.loop-k.at in
    let word = c.word_in-word.result in
    let lanes_are = c.as_slice-lanes.ensures.value in
    let p_is : p ≡ code.p = ap (λ (d : CodeData). d.p) c.code.view_is in
    let q_is : c.code.inside.q ≡ code.q = ap (λ (d : CodeData). d.q) c.code.view_is in
    let long : length group ≡ p = c.requires.group ∙ sym p_is in
    let cut = word_of_group p k group c.loop-k-test.true long (bytes_small group (λ i. omega (arith, c.type_inv.group i))) in
    let word_is : word ≡ word_at (bits group) (code.p * k) code.p =
    c.word_in-word.ensures.value ∙ ap (λ (n : ℕ). n / 2 ^ (p * (7 - k)) % 2 ^ p) c.number_of_bytes-value.ensures ∙ cut ∙ ap (λ (n : ℕ). word_at (bits group) (n * k) n) p_is in
    let small : word < size = subst (λ (n : ℕ). word < 2 ^ n) p_is c.word_in-word.ensures.below in
    let one : code.q * length (one_word word) ≡ code.q = omega arith in
    let there : at + c.code.inside.q ≡ at + code.q * length (one_word word) = omega (arith, one, q_is) in
    let made = c.put_item-place.ensures in
    let by_table = by_table_more code one_word size c.args.state c.args.at 32 c.as_slice-lanes.result.now c.as_slice-next.result.now (words_to code.p group k) (words_to code.p group (k + 1))
    c.args.room.now c.loop-k.room c.put_item-place.new.room at (at + c.code.inside.q) c.loop-k.place word c.put_item-place.result
    (table_named code one_word size c.args.table.now.lanes.items c.as_slice-lanes.result.now c.args.table.now.next.items c.as_slice-next.result.now lanes_are c.as_slice-next.ensures.value c.requires.table)
    c.loop-k.invariant.by_table small (omega (arith, one, c.word_count.ensures.table.q)) made.lane made.len made.next there (words_more code.p group k word word_is) in
    let within : length (words_to code.p group (k + 1)) ≤ 8 = omega (arith, length-words_to code.p group (k + 1), c.loop-k-test.true) in
    let lanes = ap (λ (ds : List (List ℕ)). length ds) lanes_are in
    record {
      by_table = by_table;
      fits = room_for_lane code.q (at + c.code.inside.q) c.args.at (length (words_to code.p group (k + 1))) 8 (length c.put_item-place.new.room)
          by_table.behind within (omega (arith, c.requires.room, by_table.puts.len));
      entries = omega (arith, entries_inside code size c.args.state c.args.at _ _ _ _ _ by_table, lanes, c.requires.table.lanes_len);
    }

pub returns : goal.returns
returns c =
    let code = c.args.code.now in
    let group = c.args.group.now in
    let k = c.loop-k.k in
    let some : 0 < code.p = omega (arith, c.word_count.ensures.table.p) in
    let all : k ≡ word_count code.p (8 * length group) = omega (arith, words_of_group code.p (length group) some c.requires.group, c.loop-k-test.false, c.loop-k.auto.k-end) in
    by_table_all code (2 ^ code.p) c.args.state c.args.at (words_to code.p group k) (file_words code.p group) c.args.room.now c.loop-k.room c.loop-k.at c.loop-k.place c.at.result
    c.loop-k.invariant.by_table (ap (λ (n : ℕ). words_to code.p group n) all) (power_positive 2 code.p (omega arith))
    (c.at.ensures.value ∙ ap (λ (d : CodeData). c.loop-k.place / 2 ^ d.p) c.code.view_is)

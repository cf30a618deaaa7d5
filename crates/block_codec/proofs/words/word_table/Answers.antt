use Rattle.std.proofs.Common.{◌≡◌, ℕ, ◌*◌, ◌/◌, ◌%◌, ◌^◌, length, ap, sym, subst, arith}
use Rattle.block_codec.specs.inside.Tables.{IsEntry, IsTable, one_word}
use Rattle.block_codec.proofs.EntryLaws.{entries_more, entries_all}
use Rattle.block_codec.proofs.words.word_table.Goals as goal

pub loop-place-preserved : goal.loop-place-preserved
loop-place-preserved c =
    let code = c.args.code.now in
    let size = c.word_count-size.result in
    let place = c.loop-place.place in
    let words = one_word (place % size) in
    let lane = c.word_entry-next.result.0 in
    let next = c.word_entry-next.result.1 in
    let here : IsEntry code words (2 ^ code.p) (place / size) lane (2 ^ code.p * next) =
    subst (λ (n : ℕ). IsEntry code words (2 ^ code.p) n lane (2 ^ code.p * next)) c.at.ensures.value c.word_entry-next.ensures in
    let sized : IsEntry code words size (place / size) lane (size * next) =
    subst (λ (n : ℕ). IsEntry code words n (place / size) lane (n * next)) (sym c.word_count-size.ensures.count) here in
    let entry : IsEntry code words size (place / size) lane (size * c.index.result) =
    subst (λ (n : ℕ). IsEntry code words size (place / size) lane (size * n)) (sym c.index.ensures.value) sized in
    entries_more code one_word size c.loop-place.table.lanes.items c.push.new.self.lanes.items c.loop-place.table.next.items c.push.new.self.next.items place lane (size * c.index.result)
    c.loop-place.invariant entry c.in_ok-push.ensures.lanes c.in_ok-push.ensures.next

pub returns : goal.returns
returns c =
    let code = c.args.code.now in
    let size = c.word_count-size.result in
    let count : c.loop-place.place ≡ size * length code.rows = omega (arith, ap (λ (n : ℕ). size * n) c.state_count.ensures.count, c.loop-place-test.false, c.loop-place.auto.place-end) in
    subst (λ (n : ℕ). IsTable code one_word n c.loop-place.table.lanes.items c.loop-place.table.next.items) c.word_count-size.ensures.count
    (entries_all code one_word size c.loop-place.table.lanes.items c.loop-place.table.next.items c.loop-place.place c.state_count.ensures.table count c.loop-place.invariant)

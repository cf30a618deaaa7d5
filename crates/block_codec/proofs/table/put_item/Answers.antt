use Rattle.std.proofs.Common.{◌≡◌, ◌+◌, ◌-◌, ◌++◌, List, [], ℕ, length, take, get_or, ap, arith, ◌∙◌}
use Rattle.std.proofs.lemmas.List.{length-take, length-drop, get_or_default}
use Rattle.block_codec.proofs.ItemLaws.{lane_put}
use Rattle.block_codec.proofs.table.put_item.Goals as goal

pub returns-clause-lane : goal.returns-clause-lane
returns-clause-lane g c = λ n short.
    let at = c.args.at in
    let lane : c.index-lanes-entry.result ≡ get_or c.args.lanes.now c.args.entry [] =
    c.index-lanes-entry.is ∙ get_or_default c.args.lanes.now c.args.entry c.index-lanes-entry.result [] c.requires.lanes in
    let width : length c.copy_from_slice.new.self ≡ at + g.row.LANE - at = omega (arith, c.copy_from_slice.ensures.len, length-take {A = ℕ}, length-drop {A = ℕ}) in
    lane_put at (at + g.row.LANE - at) c.args.room.now c.copy_from_slice.new.self n (omega (arith, c.requires.room)) width (omega (arith, short))
    ∙ ap (λ (lane : List ℕ). take at c.args.room.now ++ take n lane) (c.copy_from_slice.ensures.after ∙ lane)

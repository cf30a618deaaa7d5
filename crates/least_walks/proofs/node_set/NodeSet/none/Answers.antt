use Rattle.std.proofs.Common.{◌+◌, ◌/◌, refl}
use Rattle.least_walks.proofs.NodeBits.{none_made, room_made}
use Rattle.least_walks.proofs.node_set.NodeSet.none.Goals as goal

pub returns-clause-none : goal.returns-clause-none
returns-clause-none c =
    none_made c.in_ok-from_elem.field-0.items (c.args.nodes / 8 + 1) (c.in_ok-from_elem.ensures.items_if_clones_equal (λ y h. h))

pub returns-clause-room : goal.returns-clause-room
returns-clause-room c =
    room_made c.in_ok-from_elem.field-0.items (c.args.nodes / 8 + 1) c.args.nodes
    (c.in_ok-from_elem.ensures.items_if_clones_equal (λ y h. h)) refl

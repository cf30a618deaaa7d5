use Rattle.std.proofs.Common.{◌≡◌, ◌+◌, ◌<◌, List, [], length, map, get_or, Bool, ap, sym, ◌∙◌, subst, arith}
use Rattle.std.proofs.lemmas.List.{length-map}
use Rattle.label_graphs.specs.Views.{edge_data}
use Rattle.label_graphs.specs.inside.Found.{HasFound, AreFollowed, AreTaken, Marked, targets}
use Rattle.label_graphs.proofs.Renumbered.{targets_inside}
use Rattle.label_graphs.proofs.Searching.{followed_more, found_all, number_read, written_back}
use Rattle.label_graphs.proofs.reached.reach.Goals as goal

pub row-requires : goal.row-requires
row-requires g c =
    let number = g.N.Name.number in
    let here : c.loop-at.at < length c.loop-at.found.items = omega (arith, c.loop-at-test.true, c.len.ensures, c.loop-at.found.ok.0) in
    let place : c.loop-at.at < length (map number c.loop-at.found.items) = omega (arith, here, length-map c.loop-at.found.items number) in
    subst (λ s. s < length c.args.graph.now) (sym (number_read number c.loop-at.found.items c.loop-at.at c.index.result.now here c.index.ensures))
    (c.loop-at.invariant.found.inside c.loop-at.at place)

pub mark_targets-requires : goal.mark_targets-requires
mark_targets-requires g c =
    targets_inside (g.N.Name.number) c.args.graph.now (g.N.Name.number c.index.result.now) (length c.deref_mut-in-loop-at.result.now) c.row.result.now c.row.ensures.edges
    c.row.ensures.kept (sym (ap (λ (l : List Bool). length l) c.deref_mut-in-loop-at.ensures.value ∙ c.loop-at.invariant.found.size))

pub loop-at-preserved : goal.loop-at-preserved
loop-at-preserved g c =
    let number = g.N.Name.number in
    let graph = c.args.graph.now in
    let from = number c.args.from in
    let at = c.loop-at.at in
    let items = c.loop-at.found.items in
    let new = c.mark_targets.new.marks in
    let row = map (edge_data number) c.row.result.now in
    let known = c.loop-at.invariant in
    let here : at < length items = omega (arith, c.loop-at-test.true, c.len.ensures, c.loop-at.found.ok.0) in
    let place : at < length (map number items) = omega (arith, here, length-map items number) in
    let read = number_read number items at c.index.result.now here c.index.ensures in
    let row_is : row ≡ get_or graph (get_or (map number items) at 0) [] = c.row.ensures.edges ∙ ap (λ s. get_or graph s []) read in
    let taken : AreTaken (targets row) c.loop-at.marks.items (map number items) new (map number c.mark_targets.new.found.items) =
    subst (λ (l : List Bool). AreTaken (targets row) l (map number items) new (map number c.mark_targets.new.found.items)) c.deref_mut-in-loop-at.ensures.value c.in_ok-mark_targets.ensures in
    let next = followed_more graph from at row c.loop-at.marks.items new (map number items) (map number c.mark_targets.new.found.items)
    c.row.ensures.kept known.found known.followed place row_is taken in
    let back = written_back c.loop-at.marks.len new c.loop-at.marks.items (taken.size ∙ sym c.loop-at.marks.ok.0) in
    record {
      found = subst (λ (l : List Bool). HasFound graph from l (map number c.mark_targets.new.found.items)) (sym back) next.0;
      followed = subst (λ (l : List Bool). AreFollowed graph l (map number c.mark_targets.new.found.items) (at + 1)) (sym back) next.1;
      begun = subst (λ (l : List Bool). Marked l from) (sym back) (taken.stays from known.begun);
    }

pub returns : goal.returns
returns g c =
    let number = g.N.Name.number in
    let known = c.loop-at.invariant in
    found_all c.args.graph.now (number c.args.from) c.loop-at.at c.loop-at.marks.items (map number c.loop-at.found.items) known.found known.followed
    (omega (arith, c.loop-at-test.false, c.len.ensures, c.loop-at.found.ok.0, length-map c.loop-at.found.items number)) known.begun

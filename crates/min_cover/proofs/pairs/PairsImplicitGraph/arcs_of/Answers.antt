use Rattle.std.proofs.Common.{◌+◌, sym, ◌∙◌, subst, arith}
use Rattle.std.specs.Global.{Vec}
use Rattle.least_walks.specs.declared.Arc.{Arc}
use Rattle.least_walks.specs.Graph.{AreArcsBelow}
use Rattle.least_walks.proofs.ArcLists.{arcs_all}
use Rattle.min_cover.specs.inside.Pairs.{pair_graph}
use Rattle.min_cover.proofs.PairLaws.{arcs_one_more, arcs_none_more, none_told}
use Rattle.min_cover.proofs.pairs.PairsImplicitGraph.arcs_of.Goals as goal
use Rattle.min_cover.proofs.pairs.PairsImplicitGraph.arcs_of.Goals.{in-Some+in_ok-push, in_default}

pub loop-symbol-preserved : goal.loop-symbol-preserved
loop-symbol-preserved c =
    let cover = c.args.self.now in
    let symbol = c.loop-symbol.symbol in
    elim c.match-after.branch [
      | in-Some+in_ok-push w ↦
          subst (λ (r : Vec Arc). AreArcsBelow (pair_graph cover) c.args.node (symbol + 1) r.items) (sym w.room-is)
          (subst (AreArcsBelow (pair_graph cover) c.args.node (symbol + 1)) (sym w.in_ok-push.ensures.items)
          (arcs_one_more cover c.args.node symbol w.in-Some.to c.loop-symbol.room.items w.in-Some.ensures.step w.in-Some.ensures.inside c.loop-symbol.invariant))
      | in_default w ↦
          subst (λ (r : Vec Arc). AreArcsBelow (pair_graph cover) c.args.node (symbol + 1) r.items) (sym w.room-is)
          (arcs_none_more cover c.args.node symbol c.loop-symbol.room.items (sym (none_told c.after.result w.in_default.not-Some) ∙ c.after.ensures.step) c.loop-symbol.invariant)
    ]

pub returns : goal.returns
returns c = record {
  arcs = arcs_all (pair_graph c.args.self.now) c.args.node c.loop-symbol.symbol c.loop-symbol.room.items c.loop-symbol.invariant
      (λ label u arc. let less = c.symbols-symbol-end.ensures.all c.args.node label u arc in omega (arith, less, c.loop-symbol-test.false));
}

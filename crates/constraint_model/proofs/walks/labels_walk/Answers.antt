use Rattle.std.proofs.Common.{◌≢◌, List, [], length, ap, ◌∙◌}
use Rattle.std.specs.Prelude.{◌==◌}
use Rattle.std.proofs.lemmas.Bool.{both_ways}
use Rattle.constraint_spec.specs.declared.GraphEdge.{GraphEdge}
use Rattle.constraint_model.proofs.StateSets.{ends_of_nothing, ends_by_next, walk_by_marks}
use Rattle.constraint_model.proofs.walks.labels_walk.Goals as goal

pub loop-symbol-init : goal.loop-symbol-init
loop-symbol-init c = ends_of_nothing c.args.edges.now

pub loop-symbol-preserved : goal.loop-symbol-preserved
loop-symbol-preserved c =
    ends_by_next c.args.edges.now c.args.word.now c.loop-symbol.symbol-index c.loop-symbol.ends c.led-next.result c.requires
    c.loop-symbol-test.true c.loop-symbol.invariant c.led-next.ensures

pub returns : goal.returns
returns c =
    let walk = walk_by_marks c.args.edges.now c.args.word.now c.loop-symbol.symbol-index c.loop-symbol.ends c.contains.result c.requires
    c.loop-symbol-test.false c.loop-symbol.invariant c.contains.ensures.cases in
    let given : c.args.edges.now ≢ [] = λ none. both_ways _ c.if-is_empty.false (c.is_empty.ensures ∙ ap (λ (edges : List GraphEdge). length edges == 0) none) in
    ((λ yes some. walk.0 yes), (λ told. walk.1 (told given)))

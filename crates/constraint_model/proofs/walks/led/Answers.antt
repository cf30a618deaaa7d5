use Rattle.std.proofs.Common.{List, Bool, take, ◌+◌, subst, sym}
use Rattle.std.proofs.lemmas.Bool.{both_ways}
use Rattle.constraint_spec.specs.declared.GraphEdge.{GraphEdge}
use Rattle.constraint_model.specs.inside.StateSet.{AreLed}
use Rattle.constraint_model.proofs.StateSets.{led_by_none, led_by_next, led_past_next}
use Rattle.constraint_model.proofs.walks.led.Goals.{then-edge-label+then-from-edge, else-edge-label, else-edge-label-via-then-edge-label+else-from-edge, else-edge-label-via-else-edge-label}
use Rattle.constraint_model.proofs.walks.led.Goals as goal

pub loop-edge-init : goal.loop-edge-init
loop-edge-init c = led_by_none c.args.from.now c.args.label

pub loop-edge-preserved : goal.loop-edge-preserved
loop-edge-preserved c =
    let i = c.loop-edge.edge-index in
    let none : GraphEdge = record { from = 0; label = 0; to = 0 } in
    let inside = c.loop-edge-test.true in
    let Led = λ (to : List Bool). AreLed (take (i + 1) c.args.edges.now) c.args.from.now c.args.label to in
    elim c.if-edge-label.branch [
      | then-edge-label+then-from-edge w ↦ subst Led (sym w.to-is)
          (led_by_next c.args.edges.now i none c.args.from.now c.loop-edge.to c.args.label inside c.loop-edge.invariant
          (c.requires i none inside).1 w.if-edge-label.true w.if-from-edge.true)
      | else-edge-label w ↦ subst Led (sym w.to-is)
          (led_past_next c.args.edges.now i none c.args.from.now c.loop-edge.to c.args.label inside c.loop-edge.invariant
          (λ labelled marked.
          elim w.else-edge-label.branch [
            | else-edge-label-via-then-edge-label+else-from-edge v ↦ both_ways _ v.if-from-edge.false marked
            | else-edge-label-via-else-edge-label v ↦ v.if-edge-label.false labelled
          ]))
    ]

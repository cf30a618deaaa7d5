use Rattle.std.proofs.Common.{◌≡◌, List, get_or, sym, ◌∙◌, subst}
use Rattle.std.proofs.lemmas.List.{take_all, get_or_default}
use Rattle.constraint_spec.specs.declared.GraphEdge.{GraphEdge}
use Rattle.constraint_spec.specs.RawStateOf.{is_led}
use Rattle.std.proofs.Common.{Bool, ◌+◌, take}
use Rattle.min_cover.specs.inside.States.{Marks}
use Rattle.min_cover.proofs.StateMarks.{marks_none, marks_led, marks_past}
use Rattle.min_cover.proofs.raw_states.led_states.Goals.{then-edge-symbol+then-sources-edge, else-edge-symbol, else-edge-symbol-via-then-edge-symbol+else-sources-edge, else-edge-symbol-via-else-edge-symbol}
use Rattle.min_cover.proofs.raw_states.led_states.Goals as goal

pub loop-edge-init : goal.loop-edge-init
loop-edge-init c = marks_none

pub loop-edge-preserved : goal.loop-edge-preserved
loop-edge-preserved c =
    let i = c.loop-edge.edge-index in
    let none : GraphEdge = record { from = 0; label = 0; to = 0 } in
    let edges = c.args.edges.now in
    let from = c.args.from.now in
    let symbol = c.args.symbol in
    let e = get_or edges i none in
    let inside = c.loop-edge-test.true in
    let at : e ≡ get_or edges i e = get_or_default edges i none e inside in
    let below = c.requires i none inside in
    let listed = c.set_of-sources.ensures.marked e.from below.0 in
    let Led = λ (marks : List Bool). Marks (is_led (take (i + 1) edges) from symbol) marks in
    elim c.if-edge-symbol.branch [
      | then-edge-symbol+then-sources-edge w ↦ subst Led (sym w.marks-is)
          (marks_led edges i e from symbol c.loop-edge.marks inside at below.1 w.if-edge-symbol.true (sym listed ∙ w.if-sources-edge.true) c.loop-edge.invariant)
      | else-edge-symbol w ↦ subst Led (sym w.marks-is)
          (marks_past edges i e from symbol c.loop-edge.marks inside at
          (λ labelled. elim w.else-edge-symbol.branch [
            | else-edge-symbol-via-then-edge-symbol+else-sources-edge v ↦ sym listed ∙ v.if-sources-edge.false
            | else-edge-symbol-via-else-edge-symbol v ↦ absurd (v.if-edge-symbol.false labelled)
          ])
          c.loop-edge.invariant)
    ]

pub returns : goal.returns
returns c =
    subst (λ (edges : List GraphEdge). Marks (is_led edges c.args.from.now c.args.symbol) c.loop-edge.marks)
    (take_all c.loop-edge.edge-index c.args.edges.now c.loop-edge-test.false) c.loop-edge.invariant

use Rattle.std.proofs.Common.{List, [], get_or, length, ap, sym, ◌∙◌, subst, arith}
use Rattle.std.proofs.lemmas.Bool.{false≢true}
use Rattle.label_graphs.specs.Graph.{EdgeData}
use Rattle.label_graphs.proofs.Renumbered.{targets_inside}
use Rattle.state_split.proofs.StageLower.{LeadsLower, none_needs_more, none_needs_round}
use Rattle.state_split.proofs.stage.needs_round.Goals.{else-at-most-via-then-at-most+else-leads_lower, else-at-most-via-else-at-most}
use Rattle.state_split.proofs.stage.needs_round.Goals as goal

pub leads_lower-requires : goal.leads_lower-requires
leads_lower-requires c = record {
  inside = targets_inside (λ name. name) c.args.stage.now.graph c.at-then-at-most.result (length c.args.stage.now.weights) c.row.result.now c.row.ensures.edges
      c.row.ensures.kept (sym c.requires);
}

pub loop-state-preserved : goal.loop-state-preserved
loop-state-preserved c =
    let x = c.args.stage.now.weights in
    let rows = c.args.stage.now.graph in
    let most = c.greatest-most.result in
    let n = c.loop-state.state in
    none_needs_more x most rows n c.loop-state.invariant
    (λ heaviest found. elim c.else-at-most.branch [
      | else-at-most-via-then-at-most+else-leads_lower w ↦ (
          let row = w.row.ensures.edges ∙ ap (λ k. get_or rows k []) w.at-then-at-most.ensures.again in
          false≢true (sym w.if-leads_lower.false ∙ w.leads_lower.ensures.1 (subst (λ (es : List EdgeData). LeadsLower x most es) (sym row) found)))
      | else-at-most-via-else-at-most w ↦ w.if-at-most.false (c.at.ensures ∙ heaviest)
    ])

pub returns : goal.returns
returns c = (
  (λ is. absurd (false≢true is)),
  (λ need. absurd
      (none_needs_round c.args.stage.now.weights c.greatest-most.result c.args.stage.now.graph c.loop-state.state c.loop-state.invariant
      (omega (arith, c.loop-state-test.false, c.states-state-end.ensures.count)) c.greatest-most.ensures.most c.greatest-most.ensures.least need)),
)

use Rattle.std.proofs.Common.{◌<◌, get_or, ap, refl, ◌∙◌, arith}
use Rattle.std.proofs.lemmas.Bool.{false≢true}
use Rattle.state_split.proofs.StageLower.{lower_here, none_lower_more, none_lower_all}
use Rattle.state_split.proofs.stage.leads_lower.Goals as goal

pub returns-then-at-most : goal.returns-then-at-most
returns-then-at-most c =
    let x = c.args.weights.now in
    let same = c.at.ensures ∙ ap (λ k. get_or x k 0) c.index.ensures.value in
    let less : get_or x c.edge-item.result.to 0 < c.args.most = omega (arith, same, c.if-at-most.true) in (
      (λ is. lower_here x c.args.most c.args.edges.now c.loop-edge.edge-index c.edge-item.result c.loop-edge-test.true c.edge-item.is less),
      (λ found. refl),
    )

pub loop-edge-preserved : goal.loop-edge-preserved
loop-edge-preserved c =
    let x = c.args.weights.now in
    let same = c.at.ensures ∙ ap (λ k. get_or x k 0) c.index.ensures.value in
    none_lower_more x c.args.most c.args.edges.now c.loop-edge.edge-index c.edge-item.result c.loop-edge.invariant c.loop-edge-test.true c.edge-item.is
    (omega (arith, same, c.if-at-most.false))

pub returns : goal.returns
returns c = (
  (λ is. absurd (false≢true is)),
  (λ found. absurd (none_lower_all c.args.weights.now c.args.most c.args.edges.now c.loop-edge.edge-index c.loop-edge.invariant c.loop-edge-test.false found)),
)

use Rattle.std.proofs.Common.{ap, ◌∙◌, arith}
use Rattle.split_spec.specs.Round.{SplitData}
use Rattle.state_split.proofs.PartWeights.{next_weight, run_is_lighter, weights_more}
use Rattle.state_split.proofs.parts.weights_of_parts.Goals as goal

pub overflow_sub-rest : goal.overflow_sub-rest
overflow_sub-rest c =
    let x = c.args.weights.now in
    let splits = c.args.splits.now in
    let i = c.loop-split.split-index in
    let next = c.split-item.result in
    let at = c.index-at.ensures.value ∙ ap (λ (s : SplitData). s.state) c.split.view_is in
    let y = ap (λ (s : SplitData). s.y) c.split.view_is in
    let held = next_weight x splits i next c.loop-split.list.items c.index-at.result c.index.result.now c.loop-split.invariant c.requires.splits
    c.loop-split-test.true c.split-item.is at c.index.ensures in
    let less = run_is_lighter x splits i next c.requires.lighter c.loop-split-test.true c.split-item.is in
    omega (arith, held, less, y)

pub loop-split-preserved : goal.loop-split-preserved
loop-split-preserved c =
    let x = c.args.weights.now in
    let at = c.index-at.ensures.value ∙ ap (λ (s : SplitData). s.state) c.split.view_is in
    let y = ap (λ (s : SplitData). s.y) c.split.view_is in
    weights_more x c.args.splits.now c.loop-split.split-index c.split-item.result c.loop-split.list.items c.push-in-loop-split.new.self.items
    c.index-at.result c.split.inside.y c.index.result.now c.loop-split.invariant c.requires.splits c.requires.lighter c.loop-split-test.true
    c.split-item.is at y c.index.ensures c.in_ok-push-2.ensures.items

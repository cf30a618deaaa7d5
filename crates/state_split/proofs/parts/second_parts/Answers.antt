use Rattle.std.proofs.Common.{Some, ap, ◌∙◌, arith}
use Rattle.std.proofs.lemmas.List.{length-set}
use Rattle.split_spec.specs.Round.{SplitData}
use Rattle.state_split.proofs.PartNumbers.{second_more}
use Rattle.state_split.proofs.parts.second_parts.Goals as goal

pub loop-split-preserved : goal.loop-split-preserved
loop-split-preserved c =
    let known = c.loop-split.invariant in
    let parts = c.loop-split.parts.items in
    let at = c.index.ensures.value ∙ ap (λ (s : SplitData). s.state) c.split.view_is in (
      length-set parts c.index.result (Some c.at.result) ∙ known.0,
      (let next = known.1 in omega (arith, next)),
      second_more c.args.splits.now c.loop-split.split-index c.split-item.result parts c.args.states c.index.result c.at.result known.2 known.0
          c.loop-split-test.true c.split-item.is at c.requires.splits.inside (c.at.ensures.value ∙ known.1),
    )

use Rattle.std.proofs.Common.{◌+◌, List, length, refl, ap, ◌∙◌, subst}
use Rattle.split_spec.specs.Round.{SplitData}
use Rattle.state_split.specs.Views.{RoundData, weighted}
use Rattle.state_split.specs.inside.Parts.{ArePartWeights, part_parents}
use Rattle.state_split.specs.inside.Rows.{AreRowsOfParts}
use Rattle.state_split.proofs.StageRound.{splits_asked, parts_are_round}
use Rattle.state_split.proofs.stage.divided.Goals as goal

pub second_parts-requires-clause-splits : goal.second_parts-requires-clause-splits
second_parts-requires-clause-splits c =
    let known = c.requires.splits in
    splits_asked known.0 c.states.result (weighted c.args.graph.now c.args.weights.now) c.args.round.now.splits c.deref.result.now known.1
    (c.deref.ensures.value ∙ ap (λ (r : RoundData). r.splits) c.round.view_is) c.states.ensures.count

pub graph_of_parts-requires-clause-splits : goal.graph_of_parts-requires-clause-splits
graph_of_parts-requires-clause-splits c =
    let known = c.requires.splits in
    splits_asked known.0 (length c.args.graph.now) (weighted c.args.graph.now c.args.weights.now) c.args.round.now.splits c.deref-2.result.now known.1
    (c.deref-2.ensures.value ∙ ap (λ (r : RoundData). r.splits) c.round.view_is) refl

pub weights_of_parts-requires-clause-splits : goal.weights_of_parts-requires-clause-splits
weights_of_parts-requires-clause-splits c =
    let known = c.requires.splits in
    splits_asked known.0 (length c.args.weights.now) (weighted c.args.graph.now c.args.weights.now) c.args.round.now.splits c.deref-4.result.now known.1
    (c.deref-4.ensures.value ∙ ap (λ (r : RoundData). r.splits) c.round.view_is) c.requires.size

pub returns : goal.returns
returns c = λ n known.
    let rows = c.args.graph.now in
    let x = c.args.weights.now in
    let splits = c.args.round.now.splits in
    let made = c.in_ok-graph_of_parts.field-0 in
    let given = c.deref-2.ensures.value ∙ ap (λ (r : RoundData). r.splits) c.round.view_is in
    let weighed = c.deref-4.ensures.value ∙ ap (λ (r : RoundData). r.splits) c.round.view_is in
    let listed = c.deref-5.ensures.value ∙ ap (λ (r : RoundData). r.splits) c.round.view_is in
    parts_are_round n (weighted rows x) splits (weighted made c.in_ok-weights_of_parts.field-0) c.in_ok-parents_of_parts.field-0 c.requires.size known
    (record {
      graph = c.in_ok-graph_of_parts.ensures.graph;
      rows = subst (λ (ss : List SplitData). AreRowsOfParts rows ss made (length rows + length ss)) given c.in_ok-graph_of_parts.ensures.rows;
      weights = subst (λ (ss : List SplitData). ArePartWeights x ss c.in_ok-weights_of_parts.field-0) weighed c.in_ok-weights_of_parts.ensures;
      parents_are = c.in_ok-parents_of_parts.ensures ∙ ap (λ (ss : List SplitData). part_parents c.states-2.result ss) listed
          ∙ ap (λ m. part_parents m splits) c.states-2.ensures.count;
    })

use Rattle.std.proofs.Common.{length, arith}
use Rattle.std.proofs.lemmas.List.{length-map}
use Rattle.state_split.specs.Views.{RoundData, rounds_data, weighted}
use Rattle.state_split.proofs.RoundsFew.{few_splits}
use Rattle.state_split.proofs.RoundsLeadOn.{one_more, one_more_round}
use Rattle.state_split.proofs.StageRound.{splits_of_states}
use Rattle.state_split.proofs.chain.all_rounds.Goals as goal

pub next_stage-requires-clause-count : goal.next_stage-requires-clause-count
next_stage-requires-clause-count c =
    let sink = weighted c.args.sink.now.graph c.args.sink.now.weights in
    let stage = c.loop-alloc.stage in
    let g = weighted stage.graph stage.weights in
    let kept = c.rounds_keep_weights.ensures c.args.n sink g (rounds_data c.loop-alloc.rounds.items) stage.parents c.requires.n_one c.requires.weighted c.loop-alloc.invariant in
    let states = (c.graphs_are_no_larger.ensures g kept.0.weights).0 in
    let few = few_splits (length stage.graph) c.in_ok-round.round.splits (splits_of_states c.args.n g c.in_ok-round.round.splits c.in_ok-round.ensures) in
    omega (arith, states, few, kept.1, c.requires.light)

pub loop-alloc-preserved : goal.loop-alloc-preserved
loop-alloc-preserved c =
    let sink = weighted c.args.sink.now.graph c.args.sink.now.weights in
    let stage = c.loop-alloc.stage in
    let next = c.in_ok-stage-2.stage in
    one_more_round c.args.n sink (weighted stage.graph stage.weights) (weighted next.graph next.weights) (rounds_data c.loop-alloc.rounds.items) (rounds_data c.push.new.self.items)
    c.in_ok-round.round.splits stage.parents c.loop-alloc.invariant (c.needs_round.ensures.0 c.loop-alloc-test.true) (one_more c.loop-alloc.rounds.items c.push.new.self.items c.in_ok-round.round c.in_ok-push.ensures.items)
    next.parents (c.in_ok-stage-2.ensures c.args.n c.in_ok-round.ensures)

pub loop-alloc-smaller : goal.loop-alloc-smaller
loop-alloc-smaller c =
    let sink = weighted c.args.sink.now.graph c.args.sink.now.weights in
    let stage = c.loop-alloc.stage in
    let next = c.in_ok-stage-2.stage in
    let h = weighted next.graph next.weights in
    let rounds = one_more_round c.args.n sink (weighted stage.graph stage.weights) h (rounds_data c.loop-alloc.rounds.items) (rounds_data c.push.new.self.items)
    c.in_ok-round.round.splits stage.parents c.loop-alloc.invariant (c.needs_round.ensures.0 c.loop-alloc-test.true) (one_more c.loop-alloc.rounds.items c.push.new.self.items c.in_ok-round.round c.in_ok-push.ensures.items)
    next.parents (c.in_ok-stage-2.ensures c.args.n c.in_ok-round.ensures) in
    let few = c.rounds_are_few.ensures c.args.n sink h (rounds_data c.push.new.self.items) next.parents c.requires.n_one c.requires.weighted rounds in
    let count = length-map c.push.new.self.items (λ (round : RoundData). round.splits) in
    omega (arith, few, count, c.in_ok-push.ensures.len)

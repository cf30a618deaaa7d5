use Rattle.std.proofs.Common.{◌+◌, Option, ap, sym, ◌∙◌, subst, arith}
use Rattle.std.specs.Prelude.{IfSome, IfNone}
use Rattle.split_spec.specs.Round.{SplitData}
use Rattle.state_split.specs.Views.{weighted}
use Rattle.state_split.specs.inside.Splits.{AreSplitsBelow, IsSplitAt}
use Rattle.state_split.specs.declared.round.Split.{Split}
use Rattle.state_split.proofs.SplitsFound.{splits_more, splits_same}
use Rattle.state_split.proofs.round.round_of.Goals.{in-Some+in_ok-push, in_default}
use Rattle.state_split.proofs.round.round_of.Goals as goal

pub loop-state-preserved : goal.loop-state-preserved
loop-state-preserved c = (
  (λ k d low. let fits = c.loop-state.invariant.0 k d low in let size = c.in_ok-split.ensures.size in omega (arith, fits, size)),
  elim c.match-branch-3.branch [
    | in-Some+in_ok-push w ↦
        splits_more c.args.n c.loop-state.state (weighted c.args.graph.now c.args.weights.now) c.loop-state.splits.items c.match-branch-3.splits.items w.in-Some.split
        c.loop-state.invariant.1
        (subst (λ s. IsSplitAt c.args.n (weighted c.args.graph.now c.args.weights.now) s w.in-Some.split) c.at.ensures.again
        (subst (λ (o : Option Split). IfSome o (IsSplitAt c.args.n (weighted c.args.graph.now c.args.weights.now) c.at.result)) w.in-Some.is c.in_ok-split.ensures.some))
        (ap (λ v. v.items) w.splits-is ∙ w.in_ok-push.ensures.items)
    | in_default w ↦
        subst (λ v. AreSplitsBelow c.args.n (weighted c.args.graph.now c.args.weights.now) (c.loop-state.state + 1) v.items) (sym w.splits-is)
        (splits_same c.args.n c.loop-state.state (weighted c.args.graph.now c.args.weights.now) c.loop-state.splits.items c.loop-state.invariant.1
        (λ split found.
        subst (λ (o : Option Split). IfNone o ((s : SplitData) → IsSplitAt c.args.n (weighted c.args.graph.now c.args.weights.now) c.at.result s → ⊥)) w.in_default.is c.in_ok-split.ensures.none
        split (subst (λ s. IsSplitAt c.args.n (weighted c.args.graph.now c.args.weights.now) s split) (sym c.at.ensures.again) found)))
  ],
)

pub returns : goal.returns
returns c =
    let all = c.states-state-end.ensures.count in
    subst (λ count. AreSplitsBelow c.args.n (weighted c.args.graph.now c.args.weights.now) count c.loop-state.splits.items) (omega (arith, all)) c.loop-state.invariant.1

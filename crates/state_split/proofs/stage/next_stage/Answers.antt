use Rattle.std.proofs.Common.{ℕ, ◌<◌, sym, subst}
use Rattle.std.specs.Prelude.{All}
use Rattle.state_split.specs.Views.{weighted}
use Rattle.state_split.proofs.StageRound.{parents_inside}
use Rattle.state_split.proofs.stage.next_stage.Goals as goal

pub compose-requires : goal.compose-requires
compose-requires c =
    let known = c.requires.splits in
    let next = c.in_ok-next.next in
    let g = weighted c.args.stage.now.graph c.args.stage.now.weights in
    let inside = parents_inside known.0 g c.args.round.now.splits (weighted next.graph next.weights) next.parents (c.in_ok-next.ensures known.0 known.1) in
    subst (λ (m : ℕ). All (λ (parent : ℕ). parent < m) next.parents) (sym c.requires.parents) inside

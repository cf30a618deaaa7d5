use Rattle.std.proofs.Common.{◌≡◌, ◌+◌, ◌*◌, ◌<◌, List, length, ap, sym, ◌∙◌, subst}
use Rattle.label_graphs.specs.Graph.{EdgeData}
use Rattle.label_graphs.specs.Cover.{CoverData}
use Rattle.min_cover.specs.inside.Pairs.{pair_count}
use Rattle.min_cover.proofs.PairLaws.{targets_pair}
use Rattle.min_cover.proofs.pairs.Pairs.after.Goals as goal

pub returns-clause-inside : goal.returns-clause-inside
returns-clause-inside c =
    let rows = c.cover.inside.graph in
    let same : rows ≡ c.args.self.now.graph = ap (λ (d : CoverData). d.graph) c.cover.view_is ∙ ap (λ (d : CoverData). d.graph) c.self.view_is in
    let size : length c.args.self.now.graph ≡ length rows = ap (λ (l : List (List EdgeData)). length l) (sym same) in
    subst (λ (l : List (List EdgeData)). c.in_ok-x.x * c.states.result + c.in_ok-y.y < pair_count l) same
    (targets_pair rows c.states.result c.at.result c.at-2.result c.args.symbol c.in_ok-x.x c.in_ok-y.y _ _ c.states.ensures.kept c.states.ensures.count
    (subst (λ n. n < length rows) (sym c.at.ensures.again) (subst (λ n. c.states-first.result.0 < n) size c.states-first.ensures.inside.0))
    (subst (λ n. n < length rows) (sym c.at-2.ensures.again) (subst (λ n. c.states-first.result.1 < n) size c.states-first.ensures.inside.1))
    c.row.ensures.edges c.row-2.ensures.edges (sym c.target.ensures ∙ c.in_ok-x.was) (sym c.target-2.ensures ∙ c.in_ok-y.was))

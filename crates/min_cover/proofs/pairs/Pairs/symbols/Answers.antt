use Rattle.std.proofs.Common.{◌≡◌, List, ap, sym, ◌∙◌, subst}
use Rattle.label_graphs.specs.Graph.{EdgeData}
use Rattle.label_graphs.specs.Cover.{CoverData}
use Rattle.min_cover.specs.inside.Pairs.{Leads, pair_step}
use Rattle.min_cover.proofs.PairLaws.{step_symbol}
use Rattle.min_cover.proofs.pairs.Pairs.symbols.Goals as goal

pub returns-clause-all : goal.returns-clause-all
returns-clause-all c =
    let same : c.cover.inside.graph ≡ c.args.self.now.graph = ap (λ (d : CoverData). d.graph) c.cover.view_is ∙ ap (λ (d : CoverData). d.graph) c.self.view_is in
    λ p symbol q step.
    step_symbol c.cover.inside.graph c.cover.inside.alphabet c.cover.invariant.symbols p symbol q
    (subst (λ (l : List (List EdgeData)). Leads (pair_step l) p symbol q) (sym same) step)

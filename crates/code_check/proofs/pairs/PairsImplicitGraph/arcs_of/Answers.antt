use Rattle.std.proofs.Common.{◌≡◌, ◌%◌, ◌*◌, ◌^◌, ◌<◌, length, get_or, ap, sym, ◌∙◌, subst}
use Rattle.code_spec.specs.Code.{CodeData}
use Rattle.code_check.specs.inside.ByBlock.{AreByBlock}
use Rattle.code_check.proofs.ByBlockLaws.{list_at}
use Rattle.code_check.proofs.PairLaws.{node_states}
use Rattle.code_check.proofs.pairs.PairsImplicitGraph.arcs_of.Goals as goal

pub pair_word-requires-clause-list : goal.pair_word-requires-clause-list
pair_word-requires-clause-list c =
    let code : CodeData = c.self.inside.code.now in
    let states : c.state_count-states.result ≡ length code.rows = c.state_count-states.ensures.count in
    let state : c.at-second.result ≡ c.args.node % length code.rows = c.at-second.ensures.value ∙ ap (λ n. c.args.node % n) states in
    let inside : c.args.node % length code.rows < length code.rows = (node_states code c.args.node (subst (λ (d : CodeData). c.args.node < length d.rows * length d.rows) (sym c.self.view_is) c.requires.node)).1 in
    let are : AreByBlock code (c.args.node % length code.rows) (2 ^ code.p) c.index.result.now.items =
    list_at code c.self.inside.by_block.items (c.args.node % length code.rows) c.index.result.now c.self.invariant inside
    (subst (λ n. c.index.result.now ≡ get_or c.self.inside.by_block.items (c.args.node % n) c.index.result.now) states c.index.ensures) in
    subst (λ s. AreByBlock code s (2 ^ code.p) c.deref.result.now) (sym state)
    (subst (λ l. AreByBlock code (c.args.node % length code.rows) (2 ^ code.p) l) (sym c.deref.ensures.value) are)

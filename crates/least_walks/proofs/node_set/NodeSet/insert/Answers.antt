use Rattle.std.proofs.Common.{◌≡◌, ℕ, ◌*◌, List, length, ap, sym, ◌∙◌, arith}
use Rattle.symbol_base.proofs.BitsLemmas.{length-bits}
use Rattle.least_walks.proofs.node_set.NodeSet.insert.Goals as goal

pub set_bit-requires : goal.set_bit-requires
set_bit-requires c =
    let size : length c.args.self.now ≡ 8 * length c.deref_mut.result.now =
    ap (λ (s : List ℕ). length s) (sym c.self.view_is) ∙ length-bits c.self.inside.bytes.items
    ∙ ap (λ (s : List ℕ). 8 * length s) (sym c.deref_mut.ensures.value) in
    omega (arith, size)

use Rattle.std.proofs.Common.{◌≡◌, ℕ, ◌<◌, ◌≤◌, ⊎_elim, ◌*◌, ◌/◌, List, length, get_or, ap, sym, ◌∙◌, subst, arith}
use Rattle.std.proofs.lemmas.Bool.{cases_lt}
use Rattle.std.proofs.lemmas.List.{get_or_default}
use Rattle.symbol_base.proofs.BitsLemmas.{length-bits}
use Rattle.least_walks.specs.NodeSet.{IsIn}
use Rattle.least_walks.proofs.NodeBits.{none_in_byte}
use Rattle.least_walks.proofs.node_set.NodeSet.first_from.Goals as goal

pub index-requires : goal.index-requires
index-requires c =
    let size : length c.args.self.now ≡ 8 * length c.self.inside.bytes.items =
    ap (λ (s : List ℕ). length s) (sym c.self.view_is) ∙ length-bits c.self.inside.bytes.items in
    omega (arith, size)

pub loop-at-preserved-then-index-eq0 : goal.loop-at-preserved-then-index-eq0
loop-at-preserved-then-index-eq0 c =
    let at : ℕ = c.loop-at.at in
    let bytes : List ℕ = c.self.inside.bytes.items in
    let size : length c.args.self.now ≡ 8 * length bytes = ap (λ (s : List ℕ). length s) (sym c.self.view_is) ∙ length-bits bytes in
    let zero : get_or bytes (at / 8) 0 ≡ 0 =
    get_or_default bytes (at / 8) 0 c.index.result.now (omega (arith, size)) ∙ sym c.index.ensures ∙ c.if-index-eq0.true in (
      omega arith,
      (λ node from less there.
          ⊎_elim (λ (before : node < at). c.loop-at.invariant.1 node from before there)
          (λ (behind : at ≤ node).
          none_in_byte bytes at zero node behind (omega (arith, less)) (subst (λ (s : List ℕ). IsIn s node) (sym c.self.view_is) there))
          (cases_lt node at)),
    )

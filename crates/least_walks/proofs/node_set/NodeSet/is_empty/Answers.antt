use Rattle.std.proofs.Common.{◌≡◌, ℕ, ◌<◌, List, length, get_or, refl, ap, sym, ◌∙◌, subst, arith}
use Rattle.symbol_base.specs.Bits.{bits}
use Rattle.least_walks.specs.NodeSet.{IsIn}
use Rattle.least_walks.proofs.NodeBits.{none_in, some_in}
use Rattle.least_walks.proofs.node_set.NodeSet.is_empty.Goals as goal

pub returns-then-byte-ne0 : goal.returns-then-byte-ne0
returns-then-byte-ne0 c =
    let bytes : List ℕ = c.deref-byte-items.result.now in
    let place : ℕ = c.loop-byte.byte-index in
    let few : get_or bytes place 0 < 256 = omega arith in
    let is : bits bytes ≡ c.args.self.now = ap bits c.deref-byte-items.ensures.value ∙ c.self.view_is in
    record {
      none = (
        (λ yes. absurd (let wrong = yes in cc)),
        (λ none. absurd (some_in bytes place c.if-byte-ne0.true few (λ node there. none node (subst (λ s. IsIn s node) is there)))),
      );
    }

pub returns : goal.returns
returns c =
    let bytes : List ℕ = c.self.inside.bytes.items in
    let same : c.deref-byte-items.result.now ≡ bytes = c.deref-byte-items.ensures.value in
    let size : length c.deref-byte-items.result.now ≡ length bytes = ap (λ (b : List ℕ). length b) same in
    let none : (node : ℕ) → IsIn c.args.self.now node → ⊥ =
    λ node there.
    none_in bytes
    (λ k below. ap (λ (b : List ℕ). get_or b k 0) (sym same) ∙ c.loop-byte.invariant k (omega (arith, below, size))) node
    (subst (λ (s : List ℕ). IsIn s node) (sym c.self.view_is) there) in
    record { none = ((λ yes. none), (λ free. refl)) }

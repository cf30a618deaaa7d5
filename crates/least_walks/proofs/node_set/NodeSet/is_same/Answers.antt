use Rattle.std.proofs.Common.{rules, ◌≡◌, ℕ, ◌<◌, List, get_or, Fits, w8, ap, sym, ◌∙◌, arith}
use Rattle.std.proofs.lemmas.Slice.Eq.{bytes_eq-Decides}
use Rattle.symbol_base.specs.Bits.{bits}
use Rattle.least_walks.proofs.NodeBits.{same_bytes}
use Rattle.least_walks.proofs.node_set.NodeSet.is_same.Goals as goal

pub returns : goal.returns
returns c =
    let a : List ℕ = c.deref-bytes.result.now in
    let b : List ℕ = c.deref-others.result.now in
    let a_fits : (i : ℕ) → Fits w8 (get_or a i 0) = search rules in
    let b_fits : (i : ℕ) → Fits w8 (get_or b i 0) = search rules in
    let a_few : (i : ℕ) → get_or a i 0 < 256 = λ i. let fits = a_fits i in omega (arith, fits) in
    let b_few : (i : ℕ) → get_or b i 0 < 256 = λ i. let fits = b_fits i in omega (arith, fits) in
    let a_is : bits a ≡ c.args.self.now = ap bits c.deref-bytes.ensures.value ∙ c.self.view_is in
    let b_is : bits b ≡ c.args.other.now = ap bits c.deref-others.ensures.value ∙ c.other.view_is in
    let told = bytes_eq-Decides a b in
    record {
      same = (
        (λ yes. sym a_is ∙ ap bits (told.0 (sym c.eq.ensures ∙ yes)) ∙ b_is),
        (λ same. c.eq.ensures ∙ told.1 (same_bytes a b a_few b_few (a_is ∙ same ∙ sym b_is))),
      );
    }

use Rattle.std.proofs.Common.{◌≡◌, ◌≢◌, ◌≤◌, ◌+◌, ◌∙◌, ◌∷◌, ℕ, List, sym, ap, refl, arith, length, length-set, get_or, get_or-set_other, set, take, add-one, replicate, subst}
use Rattle.std.proofs.lemmas.List.{take_all}
use Rattle.gf256.specs.Field.{plus, times}
use Rattle.gf256.specs.Linear.{values}
use Rattle.rs_code.specs.Word.{weighted_sum}
use Rattle.rs_code.proofs.Roots.{at_zeros}
use Rattle.gf256.proofs.Lists.{get_or-values, length-values, values-set}
use Rattle.rs_code.proofs.Steps.{zeros_of_replicate}
use Rattle.rs_code.proofs.Encoding.{raised, raised_more, length-raised, weighted_sum-raised}
use Rattle.rs_code.proofs.encode.with_root.Goals as goal

pub loop-k-init : goal.loop-k-init
loop-k-init c = record
    { full = refl; above_is = refl; zeros = λ k h. at_zeros (replicate 32 0) k (zeros_of_replicate 32 32); written = refl }

pub loop-k-preserved : goal.loop-k-preserved
loop-k-preserved c =
    let g : List ℕ = values c.args.polynomial.now in
    let now : List ℕ = values c.loop-k.product in
    let k : ℕ = c.loop-k.k in
    let set_is : values (set c.loop-k.product k c.add.result) ≡ set now k c.add.result.value = values-set c.loop-k.product k c.add.result in
    let here : (get_or c.args.polynomial.now k (record { value = 0 })).value ≡ get_or g k 0 =
    sym (get_or-values c.args.polynomial.now k (record { value = 0 }) (omega arith)) in
    let value : c.add.result.value ≡ plus (get_or g k 0) (times c.args.root.value c.loop-k.above.value) =
    c.add.ensures.value ∙ rw (here, c.mul.ensures.value) refl in
    record {
      full = length-set c.loop-k.product k c.add.result ∙ c.loop-k.invariant.full;
      above_is = here ∙ sym (ap (λ n. get_or (1 ∷ g) n 0) (add-one k));
      zeros = λ j above.
          let other : j ≢ k = omega (arith, above) in
          ap (λ xs. get_or xs j 0) set_is ∙ get_or-set_other now k j c.add.result.value 0 other ∙ c.loop-k.invariant.zeros j (omega (arith, above));
      written = rw (set_is, value)
          (raised_more c.args.degree c.args.root.value k c.loop-k.above.value g now (omega arith)
          (omega (arith, length-values c.args.polynomial.now)) (omega (arith, length-values c.args.polynomial.now, length-values c.loop-k.product))
          c.requires.polynomial c.loop-k.invariant.above_is c.loop-k.invariant.written);
    }

pub returns-clause-roots : goal.returns-clause-roots
returns-clause-roots c = λ i known.
    let g : List ℕ = values c.args.polynomial.now in
    let d : ℕ = c.args.degree in
    let a : ℕ = c.args.root.value in
    let enough : d ≤ length g = omega (arith, length-values c.args.polynomial.now) in
    let end : c.loop-k.k ≡ d + 1 = omega arith in
    let whole : take (d + 1) (values c.loop-k.product) ≡ raised d a g =
    subst (λ k. take k (values c.loop-k.product) ≡ take k (raised d a g)) end c.loop-k.invariant.written
    ∙ take_all (d + 1) (raised d a g) (omega (arith, length-raised d a g enough)) in
    ap (λ xs. weighted_sum xs i) whole ∙ weighted_sum-raised d a g i enough known

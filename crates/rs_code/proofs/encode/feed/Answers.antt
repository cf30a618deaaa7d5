use Rattle.std.proofs.Common.{◌≡◌, ◌-◌, ◌∙◌, ℕ, List, sym, ap, arith, length, set, get_or, take, subst}
use Rattle.std.specs.Prelude.{bit_xor}
use Rattle.gf256.specs.Field.{times}
use Rattle.gf256.specs.Linear.{values}
use Rattle.rs_code.specs.Word.{weighted_sum}
use Rattle.gf256.proofs.Lists.{get_or-values, length-values}
use Rattle.rs_code.proofs.Steps.{left_more, bit_xor-plus}
use Rattle.rs_code.proofs.Encoding.{fed, fed_more, fed_all, weighted_sum-fed}
use Rattle.rs_code.proofs.encode.feed.Goals as goal

pub loop-k-preserved : goal.loop-k-preserved
loop-k-preserved c =
    let before : List ℕ = c.args.register.now in
    let g : List ℕ = values c.args.generator.now in
    let f : ℕ = bit_xor c.args.symbol (get_or before 0 0) in
    let value : c.mul.result.value ≡ times f (get_or g c.loop-k.k 0) =
    c.mul.ensures.value ∙ ap (times f) (sym (get_or-values c.args.generator.now c.loop-k.k (record { value = 0 }) (omega arith))) in
    record {
      written = rw value (fed_more f g c.loop-k.register before c.loop-k.k (omega arith) c.loop-k.auto.register
          (omega (arith, length-values c.args.generator.now)) c.loop-k.invariant.written c.loop-k.invariant.left);
      left = left_more c.loop-k.register before c.loop-k.k _ c.loop-k.invariant.left;
    }

-- the new register as a whole
is_fed : (c : goal.After-mul-2)
    → set c.loop-k.register (length c.args.register.now - 1) c.mul-2.result.value
    ≡ fed (bit_xor c.args.symbol (get_or c.args.register.now 0 0)) (values c.args.generator.now) c.args.register.now
is_fed c =
    let before : List ℕ = c.args.register.now in
    let g : List ℕ = values c.args.generator.now in
    let f : ℕ = bit_xor c.args.symbol (get_or before 0 0) in
    let last : ℕ = length before - 1 in
    let end : c.loop-k.k ≡ last = omega arith in
    let value : c.mul-2.result.value ≡ times f (get_or g last 0) =
    c.mul-2.ensures.value ∙ ap (times f) (sym (get_or-values c.args.generator.now last (record { value = 0 }) (omega arith))) in
    rw value (fed_all f g c.loop-k.register before last (omega arith) c.loop-k.auto.register
    (omega (arith, length-values c.args.generator.now))
    (subst (λ k. take k c.loop-k.register ≡ take k (fed f g before)) end c.loop-k.invariant.written))

pub returns : goal.returns
returns c = λ i root.
    let before : List ℕ = c.args.register.now in
    let g : List ℕ = values c.args.generator.now in
    ap (λ xs. weighted_sum xs i) (is_fed c ∙ ap (λ f. fed f g before) (bit_xor-plus c.args.symbol (get_or before 0 0)))
    ∙ weighted_sum-fed c.args.symbol g before i c.requires.some (omega (arith, length-values c.args.generator.now)) root

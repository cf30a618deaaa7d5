use Rattle.std.proofs.Common.{◌≡◌, ◌≤◌, ◌<◌, ◌+◌, ◌-◌, ◌∙◌, sym, refl, ℕ, List, length, length-set, arith, get_or, take, replicate}
use Rattle.gf256.specs.Linear.{values}
use Rattle.std.proofs.lemmas.List.Elements.{All-take, All-set, All-replicate, All-get_or}
use Rattle.gf256.specs.Field.{IsElement}
use Rattle.gf256.proofs.FieldLaws.{plus-lt}
use Rattle.rs_code.proofs.Moments.{AreZero}
use Rattle.gf256.proofs.Lists.{get_or-values}
use Rattle.rs_code.proofs.Steps.{AreBelow-at, zeros_of_replicate, weighted_sum-AreZero, IsRooted-AreZero, moment-none, bit_xor-plus, placed_more, rooted_more}
use Rattle.rs_code.proofs.errors.place_errors.Goals as goal

pub loop-k-init : goal.loop-k-init
loop-k-init c =
    let zeros : AreZero (take c.args.symbols (replicate 255 0)) = zeros_of_replicate c.args.symbols 255 in
    record {
      full = refl;
      elements = All-replicate IsElement 255 0 (omega arith);
      sums = λ i. weighted_sum-AreZero (take c.args.symbols (replicate 255 0)) i zeros ∙ sym (moment-none (values c.args.error_values.now) i);
      rooted = λ p roots. IsRooted-AreZero p (take c.args.symbols (replicate 255 0)) zeros;
    }

pub overflow_sub-at : goal.overflow_sub-at
overflow_sub-at c =
    omega (arith, AreBelow-at c.args.symbols c.args.exponents.now c.loop-k.k (omega arith) c.requires.within)

pub overflow_sub-at-in-loop-k : goal.overflow_sub-at-in-loop-k
overflow_sub-at-in-loop-k c =
    omega (arith, AreBelow-at c.args.symbols c.args.exponents.now c.loop-k.k (omega arith) c.requires.within)

pub loop-k-preserved : goal.loop-k-preserved
loop-k-preserved c =
    let exponents : List ℕ = c.args.exponents.now in
    let ys : List ℕ = values c.args.error_values.now in
    let n : ℕ = c.args.symbols in
    let k : ℕ = c.loop-k.k in
    let at : ℕ = n - 1 - get_or exponents k 0 in
    let below : get_or exponents k 0 < n = AreBelow-at n exponents k (omega arith) c.requires.within in
    let there : at + (get_or exponents k 0 + 1) ≡ n = omega (arith, below) in
    let enough : n ≤ length c.loop-k.errors = omega arith in
    let value : get_or ys k 0 ≡ (get_or c.args.error_values.now k (record { value = 0 })).value =
    get_or-values c.args.error_values.now k (record { value = 0 }) (omega arith) in
    record {
      full = length-set c.loop-k.errors at _ ∙ c.loop-k.invariant.full;
      elements = All-set IsElement c.loop-k.errors at _
          (rw (bit_xor-plus (get_or c.loop-k.errors at 0) (get_or c.args.error_values.now k (record { value = 0 })).value)
          (plus-lt (get_or c.loop-k.errors at 0) (get_or c.args.error_values.now k (record { value = 0 })).value
          (All-get_or IsElement c.loop-k.errors at 0 (omega (arith, there)) c.loop-k.invariant.elements) (omega arith)))
          c.loop-k.invariant.elements;
      sums = λ i. rw (← value)
          (placed_more c.loop-k.errors ys exponents n k i at (omega (arith, there)) enough (omega arith) there (c.loop-k.invariant.sums i));
      rooted = λ p roots. rooted_more p c.loop-k.errors exponents n k at _ (omega (arith, there)) enough (omega arith) there roots
          (c.loop-k.invariant.rooted p roots);
    }

pub returns-clause-elements : goal.returns-clause-elements
returns-clause-elements c = All-take IsElement c.args.symbols c.loop-k.errors c.loop-k.invariant.elements

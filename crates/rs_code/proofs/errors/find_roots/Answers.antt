use Rattle.std.proofs.Common.{◌≡◌, ◌+◌, ◌∙◌, ◌<◌, ◌≤◌, ◌*◌, ◌/◌, ℕ, List, get_or, set, subst, take, length, length-set, sym, ap, refl, arith}
use Rattle.std.proofs.lemmas.List.{length_push, take-set}
use Rattle.std.specs.Prelude.{All}
use Rattle.std.proofs.lemmas.List.Elements.{All-take}
use Rattle.gf256.specs.Field.{IsElement, power, alpha}
use Rattle.gf256.specs.declared.Gf.{Gf}
use Rattle.gf256.specs.Linear.{values, IsVector}
use Rattle.rs_code.specs.Polynomial.{value_at}
use Rattle.rs_code.specs.inside.Errors.{root_exponents}
use Rattle.rs_code.proofs.Roots.{value_at-take}
use Rattle.rs_code.proofs.Steps.{values-take, roots_few, root_exponents-root, root_exponents-none, root_kept}
use Rattle.rs_code.proofs.errors.find_roots.Goals as goal
use Rattle.rs_code.proofs.errors.find_roots.Goals.{then-values-n-eq0, else-values-n-eq0}

-- the coefficients past place t are 0 and are left out
leading : (polynomial : List Gf) (t x : ℕ) → IsVector 17 (t + 1) (values polynomial) → value_at (values (take (t + 1) polynomial)) x ≡ value_at (values polynomial) x
leading polynomial t x vector =
    ap (λ p. value_at p x) (values-take (t + 1) polynomial) ∙ value_at-take (t + 1) (values polynomial) x vector.zeros

-- the value that was found at the power n of alpha
value_is : (polynomial : List Gf) (found : List ℕ) (t n rows : ℕ) → IsVector 17 (t + 1) (values polynomial)
    → ((n : ℕ) → n < 16 * rows → get_or found n 0 ≡ value_at (values (take (t + 1) polynomial)) (power alpha n))
    → n < 16 * rows
    → value_at (values polynomial) (power alpha n) ≡ get_or found n 0
value_is polynomial found t n rows vector values_are within = sym (leading polynomial t (power alpha n) vector) ∙ sym (values_are n within)

pub values-values-requires-clause-elements : goal.values-values-requires-clause-elements
values-values-requires-clause-elements c =
    subst (All IsElement) (sym (values-take (c.args.t + 1) c.args.polynomial.now))
    (All-take IsElement (c.args.t + 1) (values c.args.polynomial.now) c.requires.vector.elements)

pub loop-n-init : goal.loop-n-init
loop-n-init c = record { full = refl; counted = refl; found = refl }

pub bounds-exponents-count : goal.bounds-exponents-count
bounds-exponents-count c =
    omega (
      arith,
      c.loop-n.invariant.counted,
      c.requires.most,
      roots_few c.args.t c.loop-n.n (values c.args.polynomial.now) (omega arith) c.requires.vector c.requires.nonzero,
    )

pub loop-n-preserved : goal.loop-n-preserved
loop-n-preserved c =
    let p : List ℕ = values c.args.polynomial.now in
    let n : ℕ = c.loop-n.n in
    let count : ℕ = c.loop-n.count in
    let before = c.loop-n.invariant in
    let here : value_at p (power alpha n) ≡ get_or c.values-values.result n 0 =
    value_is c.args.polynomial.now c.values-values.result c.args.t n ((c.args.symbols + 15) / 16) c.requires.vector c.values-values.ensures
    (omega (arith, c.loop-n-test.true)) in
    let room : count ≤ 16 =
    omega (arith, before.counted, c.requires.most, roots_few c.args.t n p (omega arith) c.requires.vector c.requires.nonzero) in
    let full : length (set c.loop-n.exponents count n) ≡ 17 = length-set c.loop-n.exponents count n ∙ before.full in
    elim c.if-values-n-eq0.branch [
      | then-values-n-eq0 w ↦
          let root : value_at p (power alpha n) ≡ 0 = here ∙ w.if-values-n-eq0.true in
          record {
            full = full;
            counted = w.count-is ∙ ap (λ k. k + 1) before.counted ∙ sym (length_push (root_exponents p n) n)
                ∙ ap (λ ks. length ks) (sym (root_exponents-root p n root));
            found = ap (λ k. take k (set c.loop-n.exponents count n)) w.count-is
                ∙ root_kept p c.loop-n.exponents n count (omega (arith, before.full, room)) root before.found;
          }
      | else-values-n-eq0 w ↦
          let none : root_exponents p (n + 1) ≡ root_exponents p n =
          root_exponents-none p n (λ e. w.if-values-n-eq0.false (sym here ∙ e)) in
          record {
            full = full;
            counted = w.count-is ∙ before.counted ∙ ap (λ ks. length ks) (sym none);
            found = ap (λ k. take k (set c.loop-n.exponents count n)) w.count-is
                ∙ take-set c.loop-n.exponents count n ∙ before.found ∙ sym none;
          }
    ]

pub returns-clause-few : goal.returns-clause-few
returns-clause-few c =
    let end : c.loop-n.n ≡ c.args.symbols = omega arith in
    omega (
      arith,
      c.loop-n.invariant.counted,
      roots_few c.args.t c.loop-n.n (values c.args.polynomial.now) (omega arith) c.requires.vector c.requires.nonzero,
    )

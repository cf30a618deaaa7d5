use Rattle.std.proofs.Common.{◌≡◌, ◌∙◌, ◌+◌, ◌-◌, ◌*◌, ◌<◌, ◌∷◌, ◌++◌, ℕ, suc, List, sym, ap, refl, arith, subst, length, drop, take, get_or, replicate}
use Rattle.std.specs.Prelude.{All}
use borrow.Rule.Slice.PartMut.{same_len_mid}
use Rattle.gf256.specs.Field.{IsElement, times, power, alpha}
use Rattle.gf256.specs.declared.Gf.{Gf}
use Rattle.gf256.specs.Linear.{values}
use Rattle.std.proofs.lemmas.List.{take_all, length-take-le, length-drop}
use Rattle.std.proofs.lemmas.List.Elements.{All-from_get_or, All-get_or}
use Rattle.gf256.proofs.FieldLaws.{power-lt, times-lt}
use Rattle.gf256.proofs.Lists.{at-values, length-values}
use Rattle.rs_code.specs.Polynomial.{value_at}
use Rattle.rs_code.proofs.Words.{elements_of}
use Rattle.rs_code.proofs.Steps.{values-take}
use Rattle.rs_code.proofs.PointTables.{block_put, next_points, front_copied, constant_and_terms, stretched_none, stretched_terms, stretched_more}
use Rattle.rs_code.proofs.monomials.Monomials.values.Goals as goal

pub loop-row-init : goal.loop-row-init
loop-row-init c =
    let polynomial : List Gf = c.args.polynomial.now in
    let zeros : List Gf = replicate 16 (record { value = 0 }) in
    let degree : ℕ = length polynomial - 1 in
    let copy : List Gf = c.copy_from_slice.new.self in
    let rest : List Gf = drop 1 polynomial in
    let long : length rest ≡ degree = length-drop 1 polynomial in
    let same : copy ≡ rest = c.copy_from_slice.ensures.after ∙ take_all degree rest (omega (arith, long)) in
    let front : take degree (copy ++ drop degree zeros) ≡ rest =
    subst (λ n. take n (copy ++ drop n zeros) ≡ rest) long (front_copied copy rest zeros same (omega (arith, long, c.requires.short))).0 in
    let whole : get_or (values polynomial) 0 0 ∷ values (take degree (copy ++ drop degree zeros)) ≡ values polynomial =
    ap (λ xs. get_or (values polynomial) 0 0 ∷ values xs) front ∙ constant_and_terms polynomial c.requires.some in
    record {
      full = refl;
      elements = subst (All IsElement) (sym whole) c.requires.elements;
      farther = λ x x_in. ap (λ q. value_at q x) whole ∙ stretched_none (values polynomial) x x_in;
      done = λ n h. absurd (omega (arith, h));
    }

pub loop-row-preserved : goal.loop-row-preserved
loop-row-preserved c =
    let p : List ℕ = values c.args.polynomial.now in
    let d : ℕ = length c.args.polynomial.now - 1 in
    let constant : ℕ = get_or p 0 0 in
    let row : ℕ = c.loop-row.row in
    let before = c.loop-row.invariant in
    let terms : List Gf = c.loop-row.terms in
    let led : List Gf = c.products-terms.result in
    let now : List ℕ = constant ∷ values (take d terms) in
    let next : List ℕ = constant ∷ values (take d led) in
    let long : (xs : List Gf) → length xs ≡ 16 → length (constant ∷ values (take d xs)) ≡ suc d =
    λ xs full. ap suc (length-values (take d xs) ∙ length-take-le d xs (omega (arith, full, c.requires.short))) in
    let now_long : length now ≡ suc d = long terms (omega arith) in
    let next_long : length next ≡ suc d = long led (omega arith) in
    let constant_in : IsElement constant = All-get_or IsElement p 0 0 (omega (arith, c.requires.some, length-values c.args.polynomial.now)) c.requires.elements in
    let led_on : (k : ℕ) → k < d → get_or (values led) k 0 ≡ times (get_or (values terms) k 0) (power (power alpha 16) (k + 1)) =
    λ k h. c.products-terms.ensures.products k (omega (arith, h, c.requires.short))
    ∙ ap (times (get_or (values terms) k 0)) (c.self.invariant.2 k (omega (arith, h, c.requires.short))) in
    let times_steps : (k : ℕ) → k < suc d → get_or next k 0 ≡ times (get_or now k 0) (power (power alpha 16) k) =
    λ k h. ap (λ xs. get_or (constant ∷ xs) k 0) (values-take d led)
    ∙ stretched_terms constant (power alpha 16) d (values terms) (values led) constant_in led_on k h
    ∙ ap (λ xs. times (get_or (constant ∷ xs) k 0) (power (power alpha 16) k)) (sym (values-take d terms)) in
    record {
      full = same_len_mid _ _ c.loop-row.found c.copy_from_slice-in-loop-row.new.self c.copy_from_slice-in-loop-row.ensures.len ∙ before.full;
      elements = All-from_get_or IsElement next 0
          (λ k h. subst IsElement (sym (times_steps k (omega (arith, h, next_long)))) (times-lt _ _));
      farther = stretched_more now next p row (next_long ∙ sym now_long) (omega (arith, now_long, c.requires.short)) (elements_of now before.elements)
          (λ k h. times_steps k (omega (arith, h, now_long))) before.farther;
      done = block_put c.loop-row.found c.copy_from_slice-in-loop-row.new.self _ 0 (λ n v. v ≡ value_at p (power alpha n))
          (16 * row) (16 * (row + 1)) (omega (arith, c.copy_from_slice-in-loop-row.ensures.len)) (omega (arith, before.full, c.loop-row-test.true, c.requires.few))
          before.done
          (λ j k. ap (λ bs. get_or bs j 0) c.copy_from_slice-in-loop-row.ensures.after
          ∙ c.tabled_values-sixteen.ensures j (omega (arith, k, c.copy_from_slice-in-loop-row.ensures.len))
          ∙ ap (λ v. value_at (v ∷ values (take d terms)) (power alpha j)) (sym (at-values c.args.polynomial.now 0))
          ∙ before.farther (power alpha j) (power-lt alpha j) ∙ ap (value_at p) (next_points row j));
    }

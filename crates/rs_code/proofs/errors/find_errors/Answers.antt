use Rattle.std.proofs.Common.{◌≡◌, ◌∙◌, ℕ, List, sym, true}
use Rattle.std.proofs.lemmas.Bool.{false≢true}
use Rattle.gf256.specs.Linear.{values}
use Rattle.rs_code.proofs.Words.{elements_of}
use Rattle.rs_code.proofs.Correction.{known_roots, few_errors, values_right}
use Rattle.rs_code.proofs.errors.find_errors.Goals as goal

pub returns-then-not-have_sums-clause-none : goal.returns-then-not-have_sums-clause-none
returns-then-not-have_sums-clause-none c = λ errors pattern.
    let polynomial : List ℕ = values c.turned-polynomial.result in
    let right : c.have_sums.result ≡ true =
    c.have_sums.ensures.1 (values_right c.args.t c.args.symbols (values c.args.sums.now) (values c.key_pair-pair.result.locator)
    (values c.key_pair-pair.result.evaluator) polynomial _ (values c.error_values-values.result) errors c.requires.short
    c.key_pair-pair.ensures.pair c.key_pair-pair.ensures.no_common_root
    (elements_of polynomial c.turned-polynomial.ensures.vector.elements) c.turned-polynomial.ensures.value
    c.find_roots-roots.ensures.exponents c.error_values-values.ensures.right pattern) in
    false≢true (sym c.if-not-have_sums.true ∙ right)

pub place_errors-requires-clause-within : goal.place_errors-requires-clause-within
place_errors-requires-clause-within c =
    (known_roots (values c.turned-polynomial.result) _ c.args.symbols c.requires.short c.find_roots-roots.ensures.exponents).below

pub returns-clause-pattern : goal.returns-clause-pattern
returns-clause-pattern c =
    let polynomial : List ℕ = values c.turned-polynomial.result in
    record {
      same_length = c.place_errors.ensures.symbols;
      elements = c.place_errors.ensures.elements;
      few = few_errors c.args.t c.args.symbols polynomial _ c.requires.short c.turned-polynomial.ensures.vector c.turned-polynomial.ensures.nonzero
          c.place_errors.ensures.symbols
          (c.place_errors.ensures.rooted polynomial (known_roots polynomial _ c.args.symbols c.requires.short c.find_roots-roots.ensures.exponents).roots);
      sums_agree = λ i h. sym (c.have_sums.ensures.0 c.if-not-have_sums.false i h) ∙ sym (c.place_errors.ensures.sums i);
    }

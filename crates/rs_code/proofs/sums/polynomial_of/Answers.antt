use Rattle.std.proofs.Common.{◌≡◌, ◌∙◌, ◌-◌, ℕ, List, arith, length, length-set, take, get_or, refl}
use Rattle.std.proofs.lemmas.List.{get_or-take, length-take-le}
use Rattle.std.proofs.lemmas.List.Elements.{All-from_get_or}
use Rattle.gf256.specs.Field.{IsElement}
use Rattle.gf256.specs.Linear.{values}
use Rattle.gf256.proofs.Lists.{length-values}
use Rattle.rs_code.proofs.Words.{elements_of}
use Rattle.rs_code.proofs.PointTables.{values_written, value_at-reversed}
use Rattle.rs_code.proofs.sums.polynomial_of.Goals as goal

pub loop-k-preserved : goal.loop-k-preserved
loop-k-preserved c = record {
  full = length-set c.loop-k.polynomial c.loop-k.k _ ∙ c.loop-k.invariant.full;
  written = values_written c.loop-k.polynomial (λ k. get_or c.args.symbols.now (length c.args.symbols.now - 1 - k) 0) c.loop-k.k _
      (omega (arith, c.loop-k.invariant.full, c.loop-k-test.true, c.requires)) c.loop-k.invariant.written refl;
}

pub returns : goal.returns
returns c = λ i.
    let symbols : List ℕ = c.args.symbols.now in
    let n : ℕ = length symbols in
    let all : List ℕ = values c.loop-k.polynomial in
    let long : length (take n all) ≡ n = length-take-le n all (omega (arith, c.requires, c.loop-k.invariant.full, length-values c.loop-k.polynomial)) in
    value_at-reversed symbols (take n all) i long
    (elements_of symbols (All-from_get_or IsElement symbols 0 (λ k h. omega (arith, c.type_inv.symbols k))))
    (λ k h. get_or-take n all k 0 h ∙ c.loop-k.invariant.written k (omega (arith, h, c.loop-k-test.false)))

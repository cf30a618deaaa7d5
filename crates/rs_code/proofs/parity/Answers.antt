use Rattle.std.proofs.Common.{◌≡◌, ◌∙◌, ◌*◌, ◌<◌, ℕ, List, sym, ap, arith, length, take, get_or, replicate, subst}
use Rattle.std.proofs.lemmas.List.{take_all}
use Rattle.std.proofs.lemmas.List.Elements.{All-from_get_or}
use Rattle.gf256.specs.Field.{IsElement, plus, times, power, alpha}
use Rattle.gf256.specs.Linear.{values}
use Rattle.gf256.proofs.FieldLaws.{zero-times}
use Rattle.rs_code.specs.Word.{weighted_sum}
use Rattle.rs_code.proofs.Steps.{weighted_sum-AreZero, zeros_replicate}
use Rattle.rs_code.proofs.Encoding.{remainder_more, completed_word}
use Rattle.rs_code.proofs.parity.Goals as goal

pub loop-symbol-init : goal.loop-symbol-init
loop-symbol-init c =
    let cleared : c.fill.new.self ≡ replicate (length c.args.out.now) 0 = c.fill.ensures.after (λ y h. h) in
    record {
      elements = All-from_get_or IsElement c.fill.new.self 0 (λ i h. omega (arith, c.type_inv.out i));
      remainder = λ i h.
          ap (λ xs. weighted_sum xs i) cleared
          ∙ weighted_sum-AreZero (replicate (length c.args.out.now) 0) i (zeros_replicate (length c.args.out.now)) ∙ sym (zero-times (power alpha (2 * c.args.t * i)));
    }

pub loop-symbol-preserved : goal.loop-symbol-preserved
loop-symbol-preserved c =
    let n : length c.loop-symbol.out ≡ 2 * c.args.t = c.loop-symbol.auto.out ∙ c.fill.ensures.len ∙ c.requires.room in
    record {
      elements = All-from_get_or IsElement c.feed.new.register 0 (λ i h. omega (arith, c.type_inv.out i));
      remainder = λ i h.
          remainder_more c.args.symbols.now c.feed.new.register c.loop-symbol.out (2 * c.args.t) c.loop-symbol.symbol-index i (omega arith)
          (omega (arith, c.type_inv.symbols c.loop-symbol.symbol-index)) (c.loop-symbol.invariant.remainder i h)
          (let g : List ℕ = values c.generator-generator.result in
          let symbol : ℕ = get_or c.args.symbols.now c.loop-symbol.symbol-index 0 in
          let Root : ℕ → Type 0 = λ m. weighted_sum (take m g) i ≡ power alpha (m * i) in
          let Fed : ℕ → Type 0 = λ m.
          weighted_sum c.feed.new.register i ≡ plus (times (weighted_sum c.loop-symbol.out i) (power alpha i)) (times symbol (power alpha (m * i))) in
          subst Fed n (c.feed.ensures i (subst Root (sym n) (c.generator-generator.ensures.roots i h))));
    }

pub returns : goal.returns
returns c =
    let n : length c.loop-symbol.out ≡ 2 * c.args.t = c.loop-symbol.auto.out ∙ c.fill.ensures.len ∙ c.requires.room in
    completed_word c.args.t c.args.symbols.now c.loop-symbol.out (omega (arith, n)) (All-from_get_or IsElement c.args.symbols.now 0 (λ i h. omega (arith, c.type_inv.symbols i)))
    c.loop-symbol.invariant.elements n
    (subst (λ xs. (i : ℕ) → i < 2 * c.args.t → weighted_sum c.loop-symbol.out i ≡ times (weighted_sum xs i) (power alpha (2 * c.args.t * i)))
    (take_all c.loop-symbol.symbol-index c.args.symbols.now (omega arith)) c.loop-symbol.invariant.remainder)

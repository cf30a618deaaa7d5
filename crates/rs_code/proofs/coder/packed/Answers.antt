use Rattle.std.proofs.Common.{◌≡◌, ◌∙◌, ◌<◌, ℕ, List, sym, arith, length, subst, get_or}
use Rattle.std.proofs.lemmas.List.Elements.{All-get_or}
use Rattle.gf256.specs.Field.{IsElement}
use Rattle.gf256.specs.Linear.{values}
use Rattle.gf256.proofs.Lists.{at-values, length-values}
use Rattle.rs_code.proofs.Registers.{packed_more}
use Rattle.rs_code.proofs.coder.packed.Goals as goal

pub loop-symbol-preserved : goal.loop-symbol-preserved
loop-symbol-preserved c =
    let symbols : List ℕ = values c.args.symbols.now in
    let k : ℕ = c.loop-symbol.symbol-index in
    let within : k < length symbols = omega (arith, c.loop-symbol-test.true, length-values c.args.symbols.now) in
    let is : c.from.result ≡ get_or symbols k 0 = c.from.ensures ∙ sym (at-values c.args.symbols.now k) in
    packed_more symbols k c.loop-symbol.number c.from.result within (omega (arith, c.requires.sixteen, c.loop-symbol-test.true)) is
    (subst IsElement (sym is) (All-get_or IsElement symbols k 0 within c.requires.elements))
    c.loop-symbol.invariant

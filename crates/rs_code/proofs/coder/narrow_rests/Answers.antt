use Rattle.std.proofs.Common.{◌+◌, ◌*◌, refl, ℕ, List, sym, arith, subst, take, get_or}
use Rattle.std.proofs.lemmas.List.{take_all}
use Rattle.gf256.specs.Field.{IsElement}
use Rattle.rs_code.specs.Interleave.{interleave}
use Rattle.rs_code.specs.inside.Register.{IsRest, register}
use Rattle.rs_code.proofs.Interleaves.{length-interleave, at-interleave, at-column}
use Rattle.rs_code.proofs.Registers.{rest_none_at, narrow_more}
use Rattle.rs_code.proofs.coder.narrow_rests.Goals as goal

pub loop-s-init : goal.loop-s-init
loop-s-init c = record {
  full = refl;
  rests = λ t low small rows v inside. rest_none_at t (interleave c.args.many v c.args.symbols.now) v;
}

pub loop-s-preserved : goal.loop-s-preserved
loop-s-preserved c = record {
  full = c.feed_narrow.array_long;
  rests = λ t low small rows v inside.
      let many : ℕ = c.args.many in
      let s : ℕ = c.loop-s.s in
      let symbols : List ℕ = interleave many v c.args.symbols.now in
      let column = at-column c.args.symbols.now many s v inside c.loop-s-test.true in
      subst (λ n. IsRest t (take (s + 1) symbols) (register n 0)) (sym (c.feed_narrow.ensures v column.0))
      (narrow_more t c.args.rows.now low symbols s (get_or c.loop-s.rests v 0) _ small rows
      (omega (arith, c.loop-s-test.true, length-interleave many v c.args.symbols.now)) column.1
      (subst IsElement (sym (at-interleave many v c.args.symbols.now s c.loop-s-test.true)) (omega (arith, c.type_inv.symbols (s * many + v))))
      (c.loop-s.invariant.rests t low small rows v inside));
}

pub returns : goal.returns
returns c = λ t low small rows v inside.
    let symbols : List ℕ = interleave c.args.many v c.args.symbols.now in
    subst (λ xs. IsRest t xs (register (get_or c.loop-s.rests v 0) 0))
    (take_all c.loop-s.s symbols (omega (arith, c.loop-s-test.false, length-interleave c.args.many v c.args.symbols.now)))
    (c.loop-s.invariant.rests t low small rows v inside)

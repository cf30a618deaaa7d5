use Rattle.std.proofs.Common.{◌+◌, ◌*◌, ◌-◌, drop, refl, ℕ, List, sym, arith, subst, take, get_or}
use Rattle.std.proofs.lemmas.List.{take_all}
use Rattle.gf256.specs.Field.{IsElement}
use Rattle.rs_code.specs.Interleave.{interleave}
use Rattle.rs_code.specs.inside.Register.{IsRest, register}
use Rattle.rs_code.proofs.Interleaves.{length-interleave, at-interleave, at-column}
use Rattle.rs_code.proofs.Registers.{rest_none_both, wide_more}
use Rattle.rs_code.specs.inside.Register.{wide_step}
use Rattle.rs_code.proofs.coder.wide_rests.Goals as goal

pub loop-s-init : goal.loop-s-init
loop-s-init c = record {
  high_full = refl;
  low_full = refl;
  rests = λ t rows v inside. rest_none_both t (interleave c.args.many v c.args.symbols.now) v;
}

pub loop-s-preserved : goal.loop-s-preserved
loop-s-preserved c = record {
  high_full = c.feed_wide.array_long;
  low_full = c.feed_wide.array_long2;
  rests = λ t rows v inside.
      let many : ℕ = c.args.many in
      let s : ℕ = c.loop-s.s in
      let symbols : List ℕ = interleave many v c.args.symbols.now in
      let column = at-column c.args.symbols.now many s v inside c.loop-s-test.true in
      subst (λ n. IsRest t (take (s + 1) symbols) (register n (get_or c.feed_wide.new.low v 0))) (sym (c.feed_wide.ensures.high v column.0))
      (subst (λ m. IsRest t (take (s + 1) symbols) (register (wide_step c.args.high_rows.now (get_or c.loop-s.high v 0) (get_or c.loop-s.low v 0) (get_or (take (s * many + many - s * many) (drop (s * many) c.args.symbols.now)) v 0)) m)) (sym (c.feed_wide.ensures.low v column.0))
      (wide_more t c.args.high_rows.now c.args.low_rows.now symbols s (get_or c.loop-s.high v 0) (get_or c.loop-s.low v 0) _ rows
      (omega (arith, c.loop-s-test.true, length-interleave many v c.args.symbols.now)) column.1
      (subst IsElement (sym (at-interleave many v c.args.symbols.now s c.loop-s-test.true)) (omega (arith, c.type_inv.symbols (s * many + v))))
      (c.loop-s.invariant.rests t rows v inside)));
}

pub returns : goal.returns
returns c = λ t rows v inside.
    let symbols : List ℕ = interleave c.args.many v c.args.symbols.now in
    subst (λ xs. IsRest t xs (register (get_or c.loop-s.high v 0) (get_or c.loop-s.low v 0)))
    (take_all c.loop-s.s symbols (omega (arith, c.loop-s-test.false, length-interleave c.args.many v c.args.symbols.now)))
    (c.loop-s.invariant.rests t rows v inside)

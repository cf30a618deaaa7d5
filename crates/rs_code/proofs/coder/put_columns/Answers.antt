use Rattle.std.proofs.Common.{◌≢◌, ◌∙◌, ◌+◌, ◌*◌, ℕ, arith, get_or, [], length, below_more, get_or-set_same, get_or-set_other}
use Rattle.std.proofs.lemmas.Nat.{same_from_place}
use Rattle.rs_code.proofs.Interleaves.{row_inside}
use Rattle.rs_code.proofs.coder.put_columns.Goals as goal

pub loop-v-preserved : goal.loop-v-preserved
loop-v-preserved c =
    let many : ℕ = c.args.many in
    let k : ℕ = c.loop-k.k in
    let v : ℕ = c.loop-v.v in
    let at : ℕ = k * many + v in
    let value : ℕ = get_or (get_or c.args.rows.now v []) k 0 in
    record {
      before = λ j w inside below.
          let ne : j * many + w ≢ at = λ e. absurd (omega (arith, below, (same_from_place j w k v many inside c.loop-v-test.true e).0)) in
          get_or-set_other c.loop-v.out at (j * many + w) value 0 ne ∙ c.loop-v.invariant.before j w inside below;
      here = below_more _ _
          (λ w below.
          let ne : k * many + w ≢ at = omega (arith, below) in
          get_or-set_other c.loop-v.out at (k * many + w) value 0 ne ∙ c.loop-v.invariant.here w below)
          (get_or-set_same c.loop-v.out at value 0 (omega (arith, c.loop-v.auto.out, c.loop-k.auto.out, c.loop-v-test.true, row_inside (length c.args.out.now) many k c.loop-k-test.true)));
    }

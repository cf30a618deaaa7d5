use Rattle.std.proofs.Common.{◌≡◌, ◌∙◌, ◌+◌, ◌*◌, ◌/◌, ◌%◌, ◌<◌, ℕ, ap, ap₂, arith, get_or}
use borrow.Rule.Slice.PartMut.{same_len_mid}
use Rattle.gf256.specs.Field.{times, power, alpha}
use Rattle.rs_code.proofs.PointTables.{block_put, powers_exchange}
use Rattle.rs_code.proofs.monomials.table.Goals as goal

pub loop-place-preserved : goal.loop-place-preserved
loop-place-preserved c =
    let place : ℕ = c.loop-place.place in
    let before = c.loop-place.invariant in
    record {
      full = same_len_mid _ _ c.loop-place.table c.copy_from_slice.new.self c.copy_from_slice.ensures.len ∙ before.full;
      done = block_put c.loop-place.table c.copy_from_slice.new.self _ 0
          (λ n v. v ≡ times (c.args.factor * (n % 256 / 16)) (power (power alpha (n % 16)) (n / 256 + 1)))
          (256 * place) (256 * (place + 1)) (omega (arith, c.copy_from_slice.ensures.len)) (omega (arith, before.full, c.loop-place-test.true)) before.done
          (λ j k.
          let inside : j < 256 = omega (arith, k, c.copy_from_slice.ensures.len) in
          let row : j / 16 ≡ (256 * place + j) % 256 / 16 = omega (arith, inside) in
          let column : j % 16 ≡ (256 * place + j) % 16 = omega (arith, inside) in
          let degree : place ≡ (256 * place + j) / 256 = omega (arith, inside) in
          ap (λ bs. get_or bs j 0) c.copy_from_slice.ensures.after
          ∙ c.table_rows-rows.ensures j inside
          ∙ ap (times (c.args.factor * (j / 16))) (ap (λ v. power v (j % 16)) c.pow.ensures ∙ powers_exchange (place + 1) (j % 16))
          ∙ ap₂ times (ap (λ i. c.args.factor * i) row) (ap₂ (λ y d. power (power alpha y) (d + 1)) column degree));
    }

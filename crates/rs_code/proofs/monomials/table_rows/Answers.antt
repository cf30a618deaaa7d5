use Rattle.std.proofs.Common.{◌≡◌, ◌∙◌, ◌+◌, ◌*◌, ◌/◌, ◌%◌, ◌<◌, ℕ, ap, ap₂, arith, get_or}
use borrow.Rule.Slice.PartMut.{same_len_mid}
use Rattle.gf256.specs.Field.{times, power}
use Rattle.std.proofs.lemmas.List.{get_or-replicate}
use Rattle.gf256.proofs.FieldLaws.{times_comm, one-times, power-lt}
use Rattle.rs_code.proofs.PointTables.{block_put}
use Rattle.rs_code.proofs.monomials.table_rows.Goals as goal

pub loop-h-preserved : goal.loop-h-preserved
loop-h-preserved c =
    let h : ℕ = c.loop-h.h in
    let before = c.loop-h.invariant in
    record {
      full = same_len_mid _ _ c.loop-h.rows c.copy_from_slice.new.self c.copy_from_slice.ensures.len ∙ before.full;
      done = block_put c.loop-h.rows c.copy_from_slice.new.self _ 0
          (λ n v. v ≡ times (c.args.factor * (n / 16)) (power c.args.ratio.value (n % 16)))
          (16 * h) (16 * (h + 1)) (omega (arith, c.copy_from_slice.ensures.len)) (omega (arith, before.full, c.loop-h-test.true)) before.done
          (λ j k.
          let inside : j < 16 = omega (arith, k, c.copy_from_slice.ensures.len) in
          let row : h ≡ (16 * h + j) / 16 = omega (arith, inside) in
          let column : j ≡ (16 * h + j) % 16 = omega (arith, inside) in
          let first : ℕ = c.args.factor * h in
          ap (λ bs. get_or bs j 0) (c.copy_from_slice.ensures.after ∙ c.bytes_of-row.ensures)
          ∙ c.products.ensures.products j inside
          ∙ ap₂ times (c.progression-powers.ensures j inside ∙ one-times (power c.args.ratio.value j) (power-lt c.args.ratio.value j))
          (get_or-replicate 16 j first 0 inside)
          ∙ times_comm (power c.args.ratio.value j) first
          ∙ ap₂ (λ i y. times (c.args.factor * i) (power c.args.ratio.value y)) row column);
    }

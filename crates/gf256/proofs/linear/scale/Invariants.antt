use Rattle.std.proofs.Common.{◌≡◌, ◌<◌, ℕ, slice_index}
use Rattle.gf256.specs.Field.{IsElement}
use Rattle.gf256.specs.Linear.{values, scaled}
use Rattle.gf256.proofs.Lists.{rewritten}
use Rattle.gf256.proofs.linear.scale.Given as goal

abbrev pub invariant-loop-entry : goal.invariant-loop-entry
invariant-loop-entry l = record {
  so_far : values l.row ≡ rewritten l.entry-index (scaled l.factor.value (values l.fn.row)) (values l.fn.row);
  elements : (k : ℕ) → k < l.entry-index → IsElement (slice_index (values l.fn.row) k);
}

use Rattle.std.proofs.Common.{◌≡◌, ◌<◌, ℕ, slice_index}
use Rattle.gf256.specs.Field.{IsElement}
use Rattle.gf256.specs.Linear.{values}
use Rattle.gf256.specs.Elimination.{plus_multiple}
use Rattle.gf256.proofs.Lists.{rewritten}
use Rattle.gf256.proofs.linear.add_multiple.Given as goal

abbrev pub invariant-loop-i : goal.invariant-loop-i
invariant-loop-i l = record {
  so_far : values l.row ≡ rewritten l.i (plus_multiple (values l.fn.row) l.factor.value (values l.other)) (values l.fn.row);
  elements : (k : ℕ) → k < l.i → IsElement (slice_index (values l.fn.row) k);
}

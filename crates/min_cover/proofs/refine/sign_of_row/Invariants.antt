use Rattle.std.proofs.Common.{◌≡◌, ◌∷◌, map, take}
use Rattle.std.specs.Prelude.{slice_index}
use Rattle.min_cover.specs.inside.Search.{target_sign}
use Rattle.min_cover.proofs.refine.sign_of_row.Given as goal

abbrev pub invariant-loop-next : goal.invariant-loop-next
invariant-loop-next l = l.sign.items ≡ l.class ∷ map (target_sign (slice_index l.classes)) (take l.next-index l.row)

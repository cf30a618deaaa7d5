use Rattle.std.proofs.Common.{ℕ, ◌<◌, ◌/◌, ◌%◌, length}
use Rattle.min_cover.specs.inside.Pairs.{pair_step, IsOnCycle}
use Rattle.min_cover.proofs.cycles.least_two_states.Given as goal

abbrev pub invariant-loop-pair : goal.invariant-loop-pair
invariant-loop-pair l = (q : ℕ) → q < l.pair → q / length l.pairs.graph < q % length l.pairs.graph → IsOnCycle (pair_step l.pairs.graph) q → ⊥

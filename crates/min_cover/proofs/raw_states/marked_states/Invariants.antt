use Rattle.std.proofs.Common.{◌≡◌, ℕ, false, filter, get_or}
use Rattle.std.specs.List.{range_with_len}
use Rattle.min_cover.proofs.raw_states.marked_states.Given as goal

abbrev pub invariant-loop-state : goal.invariant-loop-state
invariant-loop-state l = l.states.items ≡ filter (λ (state : ℕ). get_or l.marks state false) (range_with_len 0 l.state)

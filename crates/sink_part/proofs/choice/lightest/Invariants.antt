use Rattle.std.proofs.Common.{◌≡◌, ℕ, ◌<◌}
use Rattle.std.specs.Prelude.{IfSome, IfNone}
use Rattle.sink_part.specs.inside.Leads.{IsEnd, IsLightest, total_from}
use Rattle.sink_part.proofs.choice.lightest.Given as goal

abbrev pub invariant-loop-state : goal.invariant-loop-state
invariant-loop-state l = record {
  some : IfSome l.least (λ best. IsLightest l.weights l.leads l.state best.state × (best.total ≡ total_from l.weights l.leads best.state));
  none : IfNone l.least ((state : ℕ) → state < l.state → IsEnd l.weights l.leads state → ⊥);
}

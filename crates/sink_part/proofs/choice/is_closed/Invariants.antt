use Rattle.std.proofs.Common.{◌≡◌, ℕ, ◌<◌, true}
use Rattle.sink_part.specs.inside.Leads.{leads}
use Rattle.sink_part.proofs.choice.is_closed.Given as goal

abbrev pub invariant-loop-to : goal.invariant-loop-to
invariant-loop-to l = (t : ℕ) → t < l.to → leads l.leads l.from t ≡ true → leads l.leads t l.from ≡ true

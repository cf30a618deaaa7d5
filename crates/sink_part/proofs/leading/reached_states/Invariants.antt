use Rattle.sink_part.specs.inside.Leads.{AreReachedRows, table_data}
use Rattle.sink_part.proofs.leading.reached_states.Given as goal

abbrev pub invariant-loop-state : goal.invariant-loop-state
invariant-loop-state l = AreReachedRows l.links (table_data l.rows.items) l.state

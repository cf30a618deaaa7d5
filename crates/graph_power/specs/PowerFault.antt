-- Why the power of a cover isn't given.
use Rattle.std.specs.Prelude.{ℕ, ◌<◌}
use Rattle.label_graphs.specs.Cover.{CoverData}
use Rattle.label_graphs.specs.Power.{HasPowerEdges}
use Rattle.graph_power.specs.declared.fault.PowerFault.{PowerFault}
use Rattle.graph_power.specs.declared.fault.PowerFault.TheVariants.{PowerEdges, NoMemory}

-- The power has the told number of edges, more than 262,144; or memory was wanted.
abbrev pub IsPowerFault : CoverData → ℕ → PowerFault → Type 0
IsPowerFault cover q (PowerEdges count) = (262144 < count) × HasPowerEdges cover q count
IsPowerFault cover q NoMemory = Unit {0}

use Rattle.std.proofs.Common.{◌≡◌, take}
use Rattle.constraint_file_spec.specs.Refusals.{state_names}
use Rattle.constraint_files.proofs.names.state_names.Given as goal

-- the names of the edges so far
abbrev pub invariant-loop-edge : goal.invariant-loop-edge
invariant-loop-edge l = l.names.keys ≡ state_names (take l.edge-index l.edges)

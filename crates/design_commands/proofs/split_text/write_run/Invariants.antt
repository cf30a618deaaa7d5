use Rattle.std.proofs.Common.{◌≡◌, ◌++◌, drop}
use Rattle.std.specs.Prelude.{string_bytes, flat_map}
use Rattle.state_split.specs.Views.{edges_data}
use Rattle.design_commands.specs.SplitLines.{run_edge}
use Rattle.design_commands.proofs.split_text.write_run.Given as goal

abbrev pub invariant-loop-edge : goal.invariant-loop-edge
invariant-loop-edge l =
    string_bytes l.text ++ flat_map (run_edge l.alphabet l.q) (edges_data (drop l.edge-index l.run))
    ≡ string_bytes l.initial.text ++ flat_map (run_edge l.alphabet l.q) (edges_data l.run)

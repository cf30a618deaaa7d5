use Rattle.std.proofs.Common.{◌≡◌, take}
use Rattle.code_check.specs.inside.CoverMoves.{moves_of}
use Rattle.code_check.proofs.reader.moves.Given as goal

abbrev pub invariant-loop-state : goal.invariant-loop-state
invariant-loop-state l = l.moves.items ≡ moves_of l.graph (take l.state-index l.states)

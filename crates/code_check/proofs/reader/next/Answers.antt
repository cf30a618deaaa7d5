use Rattle.std.proofs.Common.{◌≡◌, arith}
use Rattle.code_check.specs.inside.CoverMoves.{move_on}
use Rattle.code_check.proofs.MoveTables.{move_most}
use Rattle.code_check.proofs.reader.next.Goals as goal

pub returns-clause-inside : goal.returns-clause-inside
returns-clause-inside c =
    let is : c.target.result ≡ move_on c.args.graph.now c.args.state c.args.symbol = cc in
    omega (arith, is, move_most c.args.graph.now c.args.state c.args.symbol c.row.ensures.kept)

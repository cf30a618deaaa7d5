use Rattle.std.proofs.Common.{◌≡◌, ◌+◌, ◌≤◌, List, ℕ, length, subst, sym, ap, ◌∙◌, arith}
use Rattle.std.specs.Prelude.{All}
use Rattle.code_check.specs.inside.CoverMoves.{moves_of, IsMoveTable}
use Rattle.code_check.proofs.MoveTables.{table_more, moves_most}
use Rattle.code_check.proofs.reader.MoveTable.one_symbol_more.Goals as goal

pub returns-clause-table : goal.returns-clause-table
returns-clause-table c =
    let rows = c.args.graph.now in
    let table = c.requires.table in
    let old : List ℕ = c.args.self.now.states.items in
    let is : c.in_ok-moves.field-0.items ≡ moves_of rows old = c.in_ok-moves.ensures ∙ ap (moves_of rows) c.deref.ensures.value in
    record {
      graph = table.graph;
      short = omega arith;
      moves = subst (IsMoveTable rows (c.args.self.now.symbols + 1)) (sym is) (table_more rows c.args.self.now.symbols old table.moves);
      inside = subst (λ (states : List ℕ). All (λ state. state ≤ length rows) states) (sym is) (moves_most rows old table.graph);
    }

-- What a code's states beside a cover's states are seen as, and what the tables of them keep.
use Rattle.std.specs.Prelude.{◌≡◌, ◌+◌, ◌≤◌, List, length}
use Rattle.label_graphs.specs.Graph.{EdgeData}
use Rattle.code_spec.specs.Code.{CodeData}
use Rattle.least_walks.specs.Graph.{Graph}
use Rattle.code_check.specs.declared.reader.MoveTable.{MoveTable}
use Rattle.code_check.specs.inside.CoverMoves.{move_on, IsTableOf}
use Rattle.code_check.specs.inside.ReadGraph.{read_graph}

pub record ReadData : Type 0 where
  pub code : CodeData
  pub cover : List (List EdgeData)

abbrev pub graph_of : ReadData → Graph
graph_of reads = read_graph reads.code (length reads.cover) (move_on reads.cover)

-- a block is the words of the two tables, one behind the other
pub record KeepsTables (reads : ReadData) (front back : MoveTable) : Type 0 where
  pub few : length reads.cover ≤ 256
  pub front_is : IsTableOf reads.cover front
  pub back_is : IsTableOf reads.cover back
  pub block : front.symbols + back.symbols ≡ reads.code.q

-- What a writer of texts is made for.
use Rattle.std.specs.Prelude.{length}
use Rattle.code_spec.specs.Code.{CodeData}
use Rattle.block_codec.specs.declared.text_writer.TextWriter.{TextWriter}
use Rattle.block_codec.specs.inside.ItemTables.{IsItemTable}
use Rattle.block_codec.specs.inside.Rooms.{HasRoom}

-- the writer was made for this code: its table is the code's, and its room is large enough
pub record IsWriterFor (c : CodeData) (writer : TextWriter) : Type 0 where
  pub table : IsItemTable c writer.table
  pub room : HasRoom c (length writer.room.items)

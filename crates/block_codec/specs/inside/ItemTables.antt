-- The table that a code is encoded by.
use Rattle.code_spec.specs.Code.{CodeData}
use Rattle.block_codec.specs.declared.item_table.ItemTable.{ItemTable}
use Rattle.block_codec.specs.declared.item_table.ItemTable.TheVariants.{Bytes, Words}
use Rattle.block_codec.specs.inside.Tables.{IsByteTable, IsWordTable}

abbrev pub IsItemTable : CodeData → ItemTable → Type 0
IsItemTable c (Bytes table) = IsByteTable c table
IsItemTable c (Words table) = IsWordTable c table

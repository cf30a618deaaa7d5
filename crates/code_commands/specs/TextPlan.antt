-- When a text can be written: its writer was made for its code, and its data are no longer than a data file may be.
use Rattle.std.specs.Prelude.{◌≤◌, length}
use Rattle.block_codec.specs.TextWriter.{IsWriterFor}
use Rattle.code_commands.specs.declared.encode.TextPlan.TheInside.{Inside}
use Rattle.code_commands.specs.Limits.{data_limit}

pub record IsReady (plan : Inside) : Type 0 where
  pub writer : IsWriterFor plan.code plan.writer
  pub file : length plan.file.items ≤ data_limit

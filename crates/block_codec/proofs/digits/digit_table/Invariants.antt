use Rattle.block_codec.specs.inside.Packing.{HasRows}
use Rattle.block_codec.proofs.digits.digit_table.Given as goal

abbrev pub invariant-loop-byte : goal.invariant-loop-byte
invariant-loop-byte l = HasRows l.byte l.table.items

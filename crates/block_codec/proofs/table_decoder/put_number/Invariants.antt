use Rattle.std.proofs.Common.{◌≡◌, ◌+◌, ◌++◌, take}
use Rattle.std.specs.Prelude.{vec_len, vec_capacity}
use Rattle.symbol_base.specs.Block.{symbols_of}
use Rattle.block_codec.proofs.table_decoder.put_number.Given as goal

abbrev pub invariant-loop-j : goal.invariant-loop-j
invariant-loop-j l = record {
  items : l.out.items ≡ l.fn.out.items ++ take l.j (symbols_of 256 l.count l.number);
  len : vec_len l.out ≡ vec_len l.fn.out + l.j;
  capacity : vec_capacity l.out ≡ vec_capacity l.fn.out;
}

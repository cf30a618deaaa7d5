use Rattle.std.proofs.Common.{refl, arith}
use Rattle.block_codec.proofs.ReaderLaws.{part_of_more, nothing_came}
use Rattle.block_codec.proofs.reader.Reader.new.Goals as goal

pub returns-clause-code : goal.returns-clause-code
returns-clause-code c = record {
  blocks = c.in_ok-for_code.ensures.code;
  symbols = part_of_more c.args.code.now.q c.none.result (omega (arith, c.requires.table.p.0, c.requires.table.q.0)) c.none.ensures.part;
  bits = part_of_more 8 c.none-2.result (omega arith) c.none-2.ensures.part;
  digits = c.in_ok-digit_table.ensures;
}

pub returns-clause-text : goal.returns-clause-text
returns-clause-text c =
    nothing_came c.args.code.now _ (omega (arith, c.requires.table.p.0, c.requires.table.q.0)) refl c.in_ok-for_code.ensures.came c.none.ensures.digits c.none-2.ensures.digits

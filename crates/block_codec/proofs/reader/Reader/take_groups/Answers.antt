use Rattle.block_codec.proofs.ReaderLaws.{goes_nowhere}
use Rattle.block_codec.proofs.GroupLaws.{same_blocks}
use Rattle.block_codec.proofs.reader.Reader.take_groups.Goals as goal

pub returns-then-not-takes_eight-clause-text : goal.returns-then-not-takes_eight-clause-text
returns-then-not-takes_eight-clause-text c = λ text bytes has.
    goes_nowhere c.args.code.now text bytes c.args.out.now.items _ (same_blocks c.args.code.now text bytes c.args.self.now _ c.in-Short.is has)

use Rattle.code_spec.specs.PlainText.{plain_text}
use Rattle.shelf_io.proofs.PartsLemmas.{made_then_put}
use Rattle.block_codec.proofs.text_writer.TextWriter.write.Goals as goal

pub returns-clause-written : goal.returns-clause-written
returns-clause-written g c =
    made_then_put c.args.name.now (plain_text c.args.code.now c.args.file.now) (g.F.Shelf.files c.args.shelf.now) (g.F.Shelf.files c.make.new.self) (g.F.Shelf.files c.put_text.new.shelf) c.put_text.result
    c.in_ok-make.ensures.made c.put_text.ensures.appends

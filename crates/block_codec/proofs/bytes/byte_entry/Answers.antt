use Rattle.std.proofs.Common.{◌*◌, ◌∷◌, [], refl}
use Rattle.code_spec.specs.PlainText.{file_words}
use Rattle.block_codec.specs.inside.Tables.{byte_words}
use Rattle.block_codec.proofs.EntryLaws.{entry_put}
use Rattle.block_codec.proofs.bytes.byte_entry.Goals as goal

pub returns : goal.returns
unfolding byte_words
returns c =
    entry_put c.args.code.now c.args.state c.put_file-next.result 256 (256 * c.put_file-next.result) (file_words c.args.code.now.p (c.args.byte ∷ [])) _ c.put_file-next.new.room c.put_file-next.ensures refl

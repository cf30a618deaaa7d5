use Rattle.std.proofs.Common.{sym, ap, ◌∙◌}
use Rattle.std.specs.Prelude.{option_copied}
use Rattle.shelf_io.specs.Entries.{Entry, Kept}
use Rattle.shelf_io.proofs.EntriesLemmas.{files_of-nowhere, file_told}
use Rattle.shelf_io.proofs.in_memory.MemoryShelf.file.Goals as goal

pub returns-in_err-index : goal.returns-in_err-index
returns-in_err-index c =
    ap option_copied c.from_residual.ensures ∙ sym (files_of-nowhere c.args.self.now.entries c.args.name.now c.in_err-index.ensures)

pub returns : goal.returns
returns c =
    file_told c.args.self.now.entries c.self.inside.files.items c.args.name.now c.in_ok-index.index c.index-file.result.now c.as_slice.result.now
    (ap (λ (s : Kept). s.entries) c.self.view_is) c.in_ok-index.ensures c.index-file.ensures
    (c.as_slice.ensures.value ∙ ap (λ (e : Entry). e.bytes) c.file.view_is)

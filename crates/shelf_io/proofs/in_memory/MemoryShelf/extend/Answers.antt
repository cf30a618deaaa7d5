use Rattle.std.proofs.Common.{◌≡◌, ◌++◌, ap, ◌∙◌, subst, OnOk}
use Rattle.shelf_io.specs.Entries.{Entry, Kept, files_of}
use Rattle.shelf_io.proofs.EntriesLemmas.{file_extended, appended-nowhere}
use Rattle.shelf_io.proofs.in_memory.MemoryShelf.extend.Goals as goal

pub returns-in-None-clause-ok : goal.returns-in-None-clause-ok
returns-in-None-clause-ok c =
    subst (λ files. OnOk c.add.result (files_of c.add.new.self.entries ≡ files))
    (appended-nowhere c.args.self.now.entries c.args.name.now c.args.bytes.now c.in-None.ensures)
    c.add.ensures.ok

pub returns-in_ok-extend_from_slice-in-Some-clause-ok : goal.returns-in_ok-extend_from_slice-in-Some-clause-ok
returns-in_ok-extend_from_slice-in-Some-clause-ok c =
    file_extended c.args.self.now.entries c.self.inside.files.items c.args.name.now c.args.bytes.now c.in-Some.index c.index_mut-file.result.now _
    (ap (λ (s : Kept). s.entries) c.self.view_is) c.in-Some.ensures c.index_mut-file.ensures.value
    (ap (λ (e : Entry). e.name) c.file.view_is)
    (c.in_ok-extend_from_slice-in-Some.ensures.items ∙ ap (λ (e : Entry). e.bytes ++ c.args.bytes.now) c.file.view_is)

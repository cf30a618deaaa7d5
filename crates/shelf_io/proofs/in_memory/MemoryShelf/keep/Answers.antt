use Rattle.std.proofs.Common.{ap}
use Rattle.shelf_io.specs.Entries.{Entry, Kept}
use Rattle.shelf_io.proofs.EntriesLemmas.{file_written, file_added}
use Rattle.shelf_io.proofs.in_memory.MemoryShelf.keep.Goals as goal

pub returns-in-Some-clause-ok : goal.returns-in-Some-clause-ok
returns-in-Some-clause-ok c =
    file_written c.args.self.now.entries c.self.inside.files.items c.args.name.now c.in-Some.index c.index_mut-file.result.now _
    (ap (λ (s : Kept). s.entries) c.self.view_is) c.in-Some.ensures c.index_mut-file.ensures.value
    (ap (λ (e : Entry). e.name) c.file.view_is)

pub returns-in_ok-push-in-None-clause-ok : goal.returns-in_ok-push-in-None-clause-ok
returns-in_ok-push-in-None-clause-ok c =
    file_added c.args.self.now.entries c.self.inside.files.items c.push.new.self.items c.args.name.now _
    (ap (λ (s : Kept). s.entries) c.self.view_is) c.in-None.ensures c.in_ok-push-in-None.ensures.items
    c.in_ok-name-in-None.ensures.ok

use Rattle.shelf_io.proofs.ShelfLemmas.{content-all_appended, all_appended-other}
use Rattle.shelf_io.proofs.changes.put_behind_a_file.Goals as goal

pub returns-clause-file : goal.returns-clause-file
returns-clause-file c = content-all_appended

pub returns-clause-others : goal.returns-clause-others
returns-clause-others c = all_appended-other

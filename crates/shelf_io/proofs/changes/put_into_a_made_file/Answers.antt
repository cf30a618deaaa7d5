use Rattle.shelf_io.proofs.ShelfLemmas.{all_appended-made}
use Rattle.shelf_io.proofs.changes.put_into_a_made_file.Goals as goal

pub returns : goal.returns
returns c = all_appended-made

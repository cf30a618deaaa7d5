use Rattle.shelf_io.proofs.PartsLemmas.{made_then_put}
use Rattle.shelf_io.proofs.changes.put_all_into_a_made_file.Goals as goal

pub returns : goal.returns
returns c = made_then_put

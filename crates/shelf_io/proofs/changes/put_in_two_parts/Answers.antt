use Rattle.shelf_io.proofs.PartsLemmas.{put_then, put_then-failed, put_failed}
use Rattle.shelf_io.proofs.changes.put_in_two_parts.Goals as goal

pub returns-clause-both : goal.returns-clause-both
returns-clause-both c = put_then

pub returns-clause-second_fails : goal.returns-clause-second_fails
returns-clause-second_fails c = put_then-failed

pub returns-clause-first_fails : goal.returns-clause-first_fails
returns-clause-first_fails c = put_failed

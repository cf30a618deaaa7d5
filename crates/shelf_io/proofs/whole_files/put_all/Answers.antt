use Rattle.std.proofs.Common.{◌∙◌}
use Rattle.shelf_io.proofs.ShelfLemmas.{put_step}
use Rattle.shelf_io.proofs.whole_files.put_all.Goals as goal

pub loop-at-preserved : goal.loop-at-preserved
loop-at-preserved g c =
    let told = c.in_ok-at.ensures in
    let step = put_step c.args.name.now c.args.bytes.now c.loop-at.at c.in_ok-at.field-0 _ _ _ c.loop-at-test.true told.bound told.some c.loop-at.invariant.put told.appends in
    record { within = step.1; put = step.2; count = told.count ∙ c.loop-at.invariant.count }

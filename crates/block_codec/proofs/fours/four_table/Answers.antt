use Rattle.block_codec.proofs.FourLaws.{fours_more}
use Rattle.block_codec.proofs.fours.four_table.Goals as goal

pub loop-here-preserved : goal.loop-here-preserved
loop-here-preserved c = fours_more c.args.code.now c.loop-here.table.items c.push.new.self.items c.loop-here.here c.four_entry.result c.in_ok-push.ensures.items c.four_entry.ensures c.loop-here.invariant

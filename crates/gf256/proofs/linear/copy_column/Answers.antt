use Rattle.gf256.proofs.NullVectors.{CopiesColumn-more}
use Rattle.gf256.proofs.linear.copy_column.Goals as goal

pub loop-i-preserved : goal.loop-i-preserved
loop-i-preserved g c =
    CopiesColumn-more c.args.column c.loop-i.i c.args.rows.now c.args.vector.now c.loop-i.vector c.index-rows-i.result
    c.loop-i.auto.vector c.loop-i-test.true c.requires.room c.index-rows-i.is c.loop-i.invariant

use Rattle.std.proofs.Common.{sym, arith}
use Rattle.rs_code.specs.Polynomial.{sum_of}
use Rattle.rs_code.proofs.Words.{length-sum_of}
use Rattle.rs_code.proofs.Steps.{added_more, left_more, same_from_take}
use Rattle.rs_code.proofs.sums.add_symbols.Goals as goal

pub loop-i-preserved : goal.loop-i-preserved
loop-i-preserved c =
    let before = c.loop-i.invariant in
    record {
      added = added_more c.loop-i.word c.args.word.now c.args.others.now c.loop-i.i (omega arith)
          (omega (arith, length-sum_of c.args.word.now c.args.others.now (sym c.requires))) before.added before.left;
      left = left_more c.loop-i.word c.args.word.now c.loop-i.i _ before.left;
    }

pub returns : goal.returns
returns c =
    same_from_take c.loop-i.word (sum_of c.args.word.now c.args.others.now) c.loop-i.i (omega arith)
    (omega (arith, length-sum_of c.args.word.now c.args.others.now (sym c.requires))) c.loop-i.invariant.added

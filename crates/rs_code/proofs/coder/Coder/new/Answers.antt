use Rattle.std.proofs.Common.{arith}
use Rattle.gf256.specs.Linear.{values}
use Rattle.gf256.proofs.Lists.{length-values}
use Rattle.rs_code.proofs.Registers.{padded_generator}
use Rattle.rs_code.proofs.coder.Coder.new.Goals as goal

pub invariant_of-result : goal.invariant_of-result
invariant_of-result c = (
  record {
    least = c.requires.least;
    most = c.requires.most;
    generator = values c.generator.result;
    is_generator = padded_generator c.args.t (values c.generator.result) c.requires.most (omega (arith, length-values c.generator.result))
        c.generator.ensures.zeros c.generator.ensures.roots;
    rows = c.multiples.ensures;
  },
  c.far_rows.ensures,
)

use Rattle.std.proofs.Common.{◌^◌, ◌≤◌, arith}
use Rattle.std.proofs.Math.Pow.{pow_mono}
use Rattle.design_steps.proofs.stages.vector_of.Goals as goal

pub least_vector-requires-clause-n_two : goal.least_vector-requires-clause-n_two
least_vector-requires-clause-n_two c =
    let more : 2 ^ 1 ≤ 2 ^ c.args.p = pow_mono c.requires.p_one in
    let is = c.pow.ensures in
    omega (arith, more, is)

use Rattle.std.proofs.Common.{◌/◌, ◌≤◌, [], get_or, arith}
use Rattle.franaszek.proofs.Products.{product_of_fall}
use Rattle.franaszek.proofs.Falling.{falls, sums_lowered}
use Rattle.franaszek.proofs.descent.lower.Goals as goal

pub lower_sums-requires-clause-enough : goal.lower_sums-requires-clause-enough
lower_sums-requires-clause-enough c = λ from inside.
    let x = c.args.weights.now in
    let state = c.args.state in
    let w = get_or c.args.sums.now state 0 / c.args.n in
    let below = falls c.args.n (get_or c.args.sums.now state 0) (get_or x state 0) c.requires.two c.requires.over in
    let low : w ≤ get_or x state 0 = omega (arith, below) in
    let fall = product_of_fall (get_or c.args.matrix.now from []) x state w c.requires.inside low in
    let is = c.requires.sums.each from inside in
    omega (arith, fall, is)

pub returns-clause-sums : goal.returns-clause-sums
returns-clause-sums c =
    let x = c.args.weights.now in
    let state = c.args.state in
    let w = get_or c.args.sums.now state 0 / c.args.n in
    let below = falls c.args.n (get_or c.args.sums.now state 0) (get_or x state 0) c.requires.two c.requires.over in
    let low : w ≤ get_or x state 0 = omega (arith, below) in
    sums_lowered c.args.matrix.now x c.args.sums.now c.lower_sums.new.sums state w c.requires.size c.requires.inside low
    c.requires.sums c.lower_sums.ensures.size c.lower_sums.ensures.each

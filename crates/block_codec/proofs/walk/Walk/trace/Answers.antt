use Rattle.std.proofs.Common.{length, arith}
use Rattle.block_codec.proofs.WalkingLaws.{steps_none, steps_end, steps_ended}
use Rattle.block_codec.proofs.walk.Walk.trace.Goals as goal

pub loop-at-init : goal.loop-at-init
loop-at-init c =
    let code = c.args.code.now in
    let window = c.args.window.now in
    let steps = c.args.self.now.steps.items in
    let count = c.requires.kept.count in
    record {
      within = omega arith;
      count = count;
      leads = steps_end steps c.args.to (length window) (omega (arith, count));
      back = steps_none code window steps c.args.to (length window) (length window) (omega arith);
      front = steps_ended code window steps c.args.self.now.end c.args.to c.args.self.now.start count c.requires.kept.steps;
    }

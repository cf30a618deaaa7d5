use Rattle.std.proofs.Common.{◌≡◌, ◌-◌, ◌∙◌, ◌∷◌, [], ◌++◌, length, set, drop, ap, arith}
use Rattle.block_codec.specs.inside.Walking.{end_step}
use Rattle.block_codec.proofs.Comings.{moved_whole}
use Rattle.block_codec.proofs.walk.Walk.move_on.Goals as goal

pub returns-clause-steps : goal.returns-clause-steps
returns-clause-steps c =
    let old = c.args.self.now.steps.items in
    let steps = c.loop-i.self.steps.items in
    let whole : c.len-last.result ≡ length old = omega (arith, c.len-last.ensures, c.args.self.now.steps.ok.0) in
    let ended : c.loop-i.self.end ≡ c.args.self.now.end = c.loop-i.invariant.end in
    ap (λ n. set steps (n - 1) (end_step c.loop-i.self.end)) whole
    ∙ moved_whole (end_step 0) old steps c.loop-i.i (end_step c.loop-i.self.end) c.requires c.loop-i.invariant.count (omega (arith, whole)) c.loop-i.invariant.moved
    ∙ ap (λ e. drop 1 old ++ end_step e ∷ []) ended

use Rattle.std.proofs.Common.{ap, sym, ◌∙◌}
use Rattle.constraint_spec.specs.RawStateOf.{begins_forbidden}
use Rattle.min_cover.proofs.KeySteps.{match_skips, rest_all}
use Rattle.min_cover.proofs.raw_states.longest_end.Goals as goal

pub loop-at-preserved : goal.loop-at-preserved
loop-at-preserved c =
    sym (match_skips c.args.forbid.now c.args.word.now c.loop-at.at c.loop-at-test.true
    (ap (begins_forbidden c.args.forbid.now) (sym (rest_all c.args.word.now c.loop-at.at)) ∙ sym c.begins_some.ensures ∙ c.if-begins_some.false))
    ∙ c.loop-at.invariant

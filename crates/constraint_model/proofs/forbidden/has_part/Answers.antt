use Rattle.std.proofs.Common.{refl, sym, below_more, arith}
use Rattle.std.proofs.lemmas.Bool.{both_ways, true≢false}
use Rattle.constraint_model.proofs.Parts.{begins_there, begins_nowhere}
use Rattle.constraint_model.proofs.forbidden.has_part.Goals as goal

pub returns-then-starts_with : goal.returns-then-starts_with
returns-then-starts_with c =
    let here = begins_there c.args.part.now c.args.word.now c.loop-at.at c.starts_with.result c.starts_with.ensures.value in
    ((λ yes. here.0 c.if-starts_with.true), (λ part. refl))

pub loop-at-preserved : goal.loop-at-preserved
loop-at-preserved c =
    let here = begins_there c.args.part.now c.args.word.now c.loop-at.at c.starts_with.result c.starts_with.ensures.value in
    below_more _ _ c.loop-at.invariant (λ rest joined. both_ways _ c.if-starts_with.false (here.1 rest joined))

pub returns-else-starts_with : goal.returns-else-starts_with
returns-else-starts_with c =
    let here = begins_there c.args.part.now c.args.word.now c.loop-at.at c.starts_with.result c.starts_with.ensures.value in (
      (λ yes. absurd (true≢false (sym yes))),
      (λ part. absurd (begins_nowhere c.args.part.now c.args.word.now
          (λ place within. below_more _ _ c.loop-at.invariant (λ rest joined. both_ways _ c.if-starts_with.false (here.1 rest joined)) place (omega arith)) part)),
    )

use Rattle.std.proofs.Common.{ℕ, List, refl, subst, sym, ◌∙◌}
use Rattle.std.proofs.lemmas.Bool.{both_ways}
use Rattle.std.proofs.lemmas.List.{take_all}
use Rattle.std.proofs.lemmas.List.Elements.{All-more, All-same}
use Rattle.constraint_spec.specs.Word.{IsFactor}
use Rattle.constraint_model.proofs.forbidden.avoids.Goals as goal

pub loop-forbidden-preserved : goal.loop-forbidden-preserved
loop-forbidden-preserved c =
    let Avoided = λ (forbidden : List ℕ). IsFactor forbidden c.args.word.now → ⊥ in
    let same = c.as_slice.ensures ∙ c.forbidden-item.is in
    All-more Avoided c.args.forbid.now c.loop-forbidden.forbidden-index c.forbidden-item.result c.loop-forbidden-test.true c.loop-forbidden.invariant
    (subst Avoided same (λ part. both_ways _ c.if-has_part.false (c.has_part.ensures.1 part)))

pub returns : goal.returns
returns c =
    let Avoided = λ (forbidden : List ℕ). IsFactor forbidden c.args.word.now → ⊥ in
    ((λ yes. All-same Avoided c.args.forbid.now _ (sym (take_all c.loop-forbidden.forbidden-index c.args.forbid.now c.loop-forbidden-test.false)) c.loop-forbidden.invariant), (λ all. refl))

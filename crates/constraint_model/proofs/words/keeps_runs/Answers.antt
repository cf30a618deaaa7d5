use Rattle.std.proofs.Common.{◌-◌, ℕ, List, length, drop, subst, ◌∙◌, sym, ap, arith, length-drop, drop_of_length-le}
use Rattle.std.proofs.lemmas.List.{length_push, length-reverse}
use Rattle.std.proofs.lemmas.Iterator.Adapters.{YieldsList-from_rev_slice}
use Rattle.std.proofs.lemmas.Iterator.Consumers.{YieldsList-turn}
use Rattle.constraint_model.proofs.Reading.{read_nothing, zeros_le_length, suffix_more, no_word_of_suffix}
use Rattle.constraint_model.specs.inside.Front.{IsRead}
use Rattle.constraint_model.proofs.words.keeps_runs.Goals as goal

pub loop-symbol-init : goal.loop-symbol-init
loop-symbol-init c =
    (tt, tt, read_nothing c.args.limits _ (drop_of_length-le c.args.word.now (omega arith)))

pub extend-requires : goal.extend-requires
extend-requires c =
    let turn =
    YieldsList-turn (YieldsList-from_rev_slice c.args.word.now (cc)) c.loop-symbol.yielded _
    c.loop-symbol.yielded_by _ _ c.in-Some.symbol c.in-Some.is c.next.ensures.steps in
    let at = length c.args.word.now - length c.loop-symbol.yielded in
    omega (
      arith,
      turn.0,
      zeros_le_length _ _ _ c.loop-symbol.invariant.2,
      length-drop at c.args.word.now,
      length-reverse c.args.word.now,
      c.iter.ensures.len,
      c.iter.ensures.bound,
    )

pub loop-symbol-preserved : goal.loop-symbol-preserved
loop-symbol-preserved c =
    let turn =
    YieldsList-turn (YieldsList-from_rev_slice c.args.word.now (cc)) c.loop-symbol.yielded _
    c.loop-symbol.yielded_by _ _ c.in-Some.symbol c.in-Some.is c.next.ensures.steps in
    let P : List ℕ → Type 0 = λ part. IsRead c.args.limits c.in-Some-extend.longer part in
    let count = sym (length_push c.loop-symbol.yielded c.in-Some.symbol) in
    let more = suffix_more c.args.word.now (length c.loop-symbol.yielded) c.in-Some.symbol.now turn.0 turn.1 in
    let part = sym more ∙ ap (λ n. drop (length c.args.word.now - n) c.args.word.now) count in
    (tt, tt, subst P part (c.in-Some-extend.ensures _ c.loop-symbol.invariant.2))

pub returns-in-None-extend : goal.returns-in-None-extend
returns-in-None-extend c =
    let turn =
    YieldsList-turn (YieldsList-from_rev_slice c.args.word.now (cc)) c.loop-symbol.yielded _
    c.loop-symbol.yielded_by _ _ c.in-Some.symbol c.in-Some.is c.next.ensures.steps in
    let more = suffix_more c.args.word.now (length c.loop-symbol.yielded) c.in-Some.symbol.now turn.0 turn.1 in
    let stuck = c.in-None-extend.ensures _ c.loop-symbol.invariant.2 in
    (λ bad. absurd (cc), λ word. absurd (no_word_of_suffix c.args.limits _ _ c.args.word.now more stuck word))

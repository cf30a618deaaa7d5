use Rattle.std.proofs.Common.{inr, refl, sym, ◌∙◌, ◌≡◌, length, subst, arith}
use Rattle.std.proofs.lemmas.Bool.{false≢true}
use Rattle.block_codec.specs.inside.Between.{IsWordBetween}
use Rattle.block_codec.proofs.SetLaws.{between_more}
use Rattle.block_codec.proofs.window.word_between.Goals.{then-front-state+in_default, else-front-state}
use Rattle.block_codec.proofs.window.word_between.Goals as goal

pub loop-state-preserved : goal.loop-state-preserved
loop-state-preserved c =
    between_more c.args.code.now c.args.front.now c.args.block c.args.back.now c.loop-state.state c.loop-state.invariant
    (λ marked.
    elim c.if-front-state.branch [
      | then-front-state+in_default w ↦ w.in_default.ensures
      | else-front-state w ↦ absurd (false≢true (sym w.if-front-state.false ∙ marked))
    ])

pub returns : goal.returns
returns c =
    let end : c.loop-state.state ≡ length c.args.code.now.rows = omega arith in
    inr (refl, λ word between. c.loop-state.invariant word (subst (λ n. IsWordBetween c.args.code.now c.args.front.now c.args.block c.args.back.now n word) (sym end) between))

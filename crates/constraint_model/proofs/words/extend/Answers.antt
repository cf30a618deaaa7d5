use Rattle.std.proofs.Common.{inl, inr, ltb-true, ltb-false, ◌∙◌, sym, eqb-true}
use Rattle.constraint_model.proofs.Reading.{no_word, read_more}
use Rattle.constraint_model.proofs.words.extend.Goals.{then-symbol-eq1, else-symbol-eq1, then-short-via-then-short, then-short-via-else-short+then-longer-limits, then-short-via-else-short+else-longer-limits+then-symbol-limits}
use Rattle.constraint_model.proofs.words.extend.Goals as goal

pub returns-then-short : goal.returns-then-short
returns-then-short c = λ w read word.
    no_word c.args.limits c.args.front c.lengthened-longer.result c.args.symbol w read c.lengthened-longer.ensures
    (elim c.then-short.branch [
      | then-short-via-then-short v ↦
          elim c.if-symbol-eq1.branch [
            | then-symbol-eq1 u ↦ inl (u.if-symbol-eq1.true, ltb-true _ _ (sym u.short-is ∙ v.if-short.true))
            | else-symbol-eq1 u ↦ absurd (u.if-symbol-eq1.false (eqb-true _ _ (sym u.short-is ∙ v.if-short.true)))
          ]
      | then-short-via-else-short+then-longer-limits v ↦ inr (inl v.if-longer-limits.true)
      | then-short-via-else-short+else-longer-limits+then-symbol-limits v ↦ inr (inr v.if-symbol-limits.true)
    ])
    word

pub returns : goal.returns
returns c = λ w read.
    read_more c.args.limits c.args.front c.lengthened-longer.result c.args.symbol w read c.lengthened-longer.ensures
    (λ is_one.
    elim c.if-symbol-eq1.branch [
      | then-symbol-eq1 u ↦ ltb-false _ _ (sym u.short-is ∙ c.if-short.false)
      | else-symbol-eq1 u ↦ absurd (u.if-symbol-eq1.false is_one)
    ])
    c.if-longer-limits.false c.if-symbol-limits.false

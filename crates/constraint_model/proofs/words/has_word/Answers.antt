use Rattle.std.proofs.Common.{sym, ◌∙◌, arith}
use Rattle.std.proofs.lemmas.Bool.{both_ways}
use Rattle.constraint_model.specs.Data.{constraint_data}
use Rattle.constraint_model.proofs.WordParts.{no_word_by_runs, no_word_by_forbidden}
use Rattle.constraint_model.proofs.words.has_word.Goals.{then-keeps_runs, else-keeps_runs}
use Rattle.constraint_model.proofs.words.has_word.Goals as goal

pub returns-else-avoids-clause-word : goal.returns-else-avoids-clause-word
returns-else-avoids-clause-word c =
    let parts = constraint_data c.constraint.inside in (
      (λ yes. absurd (both_ways _ c.if-avoids.false yes)),
      (λ word. absurd (elim c.if-keeps_runs.branch [
        | then-keeps_runs w ↦ no_word_by_forbidden w.avoids.result parts c.args.constraint.now w.deref.result.now c.args.word.now
            c.constraint.view_is w.deref.ensures.value w.avoids.ensures (sym w.value-is ∙ c.if-avoids.false) word
        | else-keeps_runs w ↦ no_word_by_runs c.keeps_runs.result parts c.args.constraint.now c.longest_run.result _ c.args.word.now
            c.constraint.view_is (omega arith) c.longest_run.ensures c.keeps_runs.ensures w.if-keeps_runs.false word
      ])),
    )

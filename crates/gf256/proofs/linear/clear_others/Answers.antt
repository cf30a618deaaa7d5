use Rattle.std.proofs.Common.{◌+◌, sym, subst, ◌∙◌, arith, [], rules}
use Rattle.std.proofs.lemmas.List.{set-get_or}
use Rattle.gf256.specs.Linear.{matrix}
use Rattle.gf256.proofs.Lists.{length-matrix}
use Rattle.gf256.proofs.RowSteps.{Clearing, Clearing-none, Clearing-more_added, Clearing-more_pivot, Clearing-all}
use Rattle.gf256.proofs.linear.clear_others.Goals as goal
use Rattle.gf256.proofs.linear.clear_others.Goals.{then-i-column, else-i-column}

pub loop-i-init : goal.loop-i-init
loop-i-init g c = Clearing-none c.args.column (matrix c.args.rows.now)

pub loop-i-preserved : goal.loop-i-preserved
loop-i-preserved g c =
    let old = c.args.rows.now in
    let now = c.loop-i.rows in
    let i = c.loop-i.i in
    elim c.if-i-column.branch [
      | then-i-column w ↦
          subst (λ rows. Clearing c.args.column (i + 1) (matrix old) (matrix rows)) (sym w.rows-is)
          (Clearing-more_added c.args.column i old now w.add_multiple.new.row c.index-rows-column.result
          c.loop-i.auto.rows c.loop-i-test.true c.requires.below w.if-i-column.true c.index-rows-column.is (search rules) w.add_multiple.ensures.elements w.add_multiple.ensures.sum c.loop-i.invariant)
      | else-i-column w ↦
          subst (λ rows. Clearing c.args.column (i + 1) (matrix old) (matrix rows)) (sym (w.rows-is ∙ set-get_or now i []))
          (Clearing-more_pivot c.args.column i (matrix old) (matrix now) w.if-i-column.false c.loop-i.invariant)
    ]

pub returns : goal.returns
returns g c =
    let old_length = length-matrix c.args.rows.now in
    let now_length = length-matrix c.loop-i.rows in
    Clearing-all c.args.column c.loop-i.i (matrix c.args.rows.now) (matrix c.loop-i.rows) (omega arith) (omega arith) c.loop-i.invariant

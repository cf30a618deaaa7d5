use Rattle.std.proofs.Common.{◌+◌, ap, sym, ◌∙◌, arith}
use Rattle.label_graphs.specs.inside.Numbers.{is_marked}
use Rattle.label_graphs.proofs.Ranks.{ranks_more, rank_more, rank_same, rank_most}
use Rattle.label_graphs.proofs.kept.new_numbers.Goals.{then-mark, else-mark}
use Rattle.label_graphs.proofs.kept.new_numbers.Goals as goal

pub overflow_add-next : goal.overflow_add-next
overflow_add-next c =
    omega (arith, c.loop-mark.invariant.next, rank_most (is_marked c.args.marks.now) c.loop-mark.mark-index, c.loop-mark-test.true, c.requires)

pub loop-mark-preserved : goal.loop-mark-preserved
loop-mark-preserved c =
    let test = is_marked c.args.marks.now in
    let i = c.loop-mark.mark-index in
    record {
      given = ranks_more test i c.loop-mark.numbers.items c.push.new.self.items c.loop-mark.next c.loop-mark.invariant.given
          c.loop-mark.invariant.next c.in_ok-push.ensures.items;
      next = elim c.if-mark.branch [
        | then-mark w ↦ w.next-is ∙ ap (λ n. n + 1) c.loop-mark.invariant.next ∙ sym (rank_more test i w.if-mark.true)
        | else-mark w ↦ w.next-is ∙ c.loop-mark.invariant.next ∙ sym (rank_same test i w.if-mark.false)
      ];
    }

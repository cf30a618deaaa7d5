use Rattle.std.proofs.Common.{ℕ, ◌+◌, List, ◌∷◌, ◌++◌, [], length, ap, sym, ◌∙◌, subst, length-append}
use Rattle.std.specs.Prelude.{slice_index}
use Rattle.min_cover.specs.inside.Search.{sign_of}
use Rattle.min_cover.specs.inside.Found.{next_in}
use Rattle.min_cover.specs.inside.Classes.{IsNumberedSoFar, rows_of, width_of}
use Rattle.min_cover.proofs.Rounds.{row_inside, sign_read, numbers_sign, round_known, round_added}
use Rattle.min_cover.proofs.refine.round.Goals.{then-is_new+in_ok-push-2, else-is_new}
use Rattle.min_cover.proofs.refine.round.Goals as goal

pub sign_of_row-requires-clause-inside : goal.sign_of_row-requires-clause-inside
sign_of_row-requires-clause-inside c =
    let rows = c.args.rows.now in
    row_inside (width_of (rows_of rows)) rows c.loop-state.state (length c.args.classes.now) c.index-rows-state.result c.deref.result.now
    c.requires.table c.loop-state-test.true c.index-rows-state.is c.deref.ensures.value c.requires.size

pub loop-state-preserved : goal.loop-state-preserved
loop-state-preserved c =
    let rows = c.args.rows.now in
    let classes = c.args.classes.now in
    let width = width_of (rows_of rows) in
    let sign = sign_of (next_in (rows_of rows)) width (slice_index classes) in
    let state = c.loop-state.state in
    let old = c.loop-state.signs.keys in
    let new = c.insert_full.new.self.keys in
    let of = c.loop-state.of.items in
    let firsts = c.loop-state.firsts.items in
    let key = c.in_ok-sign.sign in
    let number = c.in_ok-class.class in
    let is_new = c.in_ok-class.is_new in
    let known = c.loop-state.invariant in
    let at = sign_read width rows state c.index-rows-state.result c.deref.result.now classes key c.requires.table c.loop-state-test.true
    c.index-rows-state.is c.deref.ensures.value c.in_ok-sign.ensures in
    let stored = c.in_ok-class.ensures.stored in
    let put = numbers_sign old new key stored.0 number is_new c.in_ok-class.ensures.keys c.in_ok-class.ensures.within stored.1 stored.2 c.in_ok-class.ensures.added in
    let items = c.in_ok-push.ensures.items in
    elim c.if-is_new.branch [
      | then-is_new+in_ok-push-2 w ↦ (
          let more = round_added sign old new of firsts key number is_new state known.numbered known.size known.few at w.if-is_new.true put in
          let pushed = ap (λ v. v.items) w.firsts-is ∙ w.in_ok-push-2.ensures.items in
          record {
            size = ap (λ (l : List ℕ). length l) items ∙ length-append of (number ∷ []) ∙ ap (λ n. n + 1) known.size;
            few = more.0;
            numbered = subst (λ (l : List ℕ). IsNumberedSoFar sign new c.push.new.self.items l) (sym pushed)
                (subst (λ (l : List ℕ). IsNumberedSoFar sign new l (firsts ++ state ∷ [])) (sym items) more.1);
          })
      | else-is_new w ↦ (
          let more = round_known sign old new of firsts key number is_new state known.numbered known.size known.few at w.if-is_new.false put in
          record {
            size = ap (λ (l : List ℕ). length l) items ∙ length-append of (number ∷ []) ∙ ap (λ n. n + 1) known.size;
            few = more.0;
            numbered = subst (λ (l : List ℕ). IsNumberedSoFar sign new c.push.new.self.items l) (sym (ap (λ v. v.items) w.firsts-is))
                (subst (λ (l : List ℕ). IsNumberedSoFar sign new l firsts) (sym items) more.1);
          })
    ]

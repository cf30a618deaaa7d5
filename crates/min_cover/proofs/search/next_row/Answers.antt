use Rattle.std.proofs.Common.{ℕ, ◌+◌, List, ◌∷◌, [], length, map, Option, sym, ap, ◌∙◌, subst, arith, length-append}
use Rattle.std.specs.Global.{Vec}
use Rattle.std.proofs.lemmas.List.{length-map}
use Rattle.std.proofs.lemmas.Result.{err_from_is_err_and}
use Rattle.constraint_spec.specs.Ranges.{IsConstraint}
use Rattle.min_cover.specs.inside.Found.{IsFoundSoFar}
use Rattle.min_cover.proofs.FoundSteps.{so_far_symbol, so_far_fault, follows_few}
use Rattle.min_cover.proofs.search.next_row.Goals as goal

pub returns-in_err-follower-clause-fault : goal.returns-in_err-follower-clause-fault
returns-in_err-follower-clause-fault c =
    let d = c.args.constraint.now in
    let rows = map (λ (row : Vec (Option ℕ)). row.items) c.args.rows.now in
    let old = c.loop-symbol.found.keys in
    let same = sym (length-map c.args.rows.now (λ (row : Vec (Option ℕ)). row.items)) in
    let ranges = subst IsConstraint c.constraint.view_is c.constraint.invariant in
    let p = err_from_is_err_and c.from_residual.result c.from_residual.ensures.1 in
    rw (p.1, p.2)
    (so_far_fault d old c.follower.new.found.keys rows c.loop-symbol.row.items (length c.args.rows.now) c.loop-symbol.symbol
    c.in_err-follower.field-0.0 same (sym c.loop-symbol.invariant.width) ranges c.loop-symbol.invariant.so_far
    (omega (arith, c.requires.inside, c.loop-symbol.invariant.kept)) c.in_err-follower.ensures)

pub loop-symbol-preserved : goal.loop-symbol-preserved
loop-symbol-preserved c =
    let d = c.args.constraint.now in
    let rows = map (λ (row : Vec (Option ℕ)). row.items) c.args.rows.now in
    let old = c.loop-symbol.found.keys in
    let new = c.follower.new.found.keys in
    let next = c.in_ok-follower.field-0 in
    let row = c.loop-symbol.row.items in
    let same = sym (length-map c.args.rows.now (λ (row : Vec (Option ℕ)). row.items)) in
    let known = c.loop-symbol.invariant in
    let few = follows_few d old new (length c.args.rows.now) c.loop-symbol.symbol next known.few c.in_ok-follower.ensures in
    let items = c.in_ok-push.ensures.items in
    record {
      few = few.1;
      kept = omega (arith, few.0, known.kept);
      width = ap (λ (r : List (Option ℕ)). length r) items ∙ length-append row (next ∷ []) ∙ ap (λ n. n + 1) known.width;
      so_far = subst (λ (r : List (Option ℕ)). IsFoundSoFar d new rows r) (sym items)
          (so_far_symbol d old new rows row (length c.args.rows.now) c.loop-symbol.symbol next same (sym known.width) known.so_far
          (omega (arith, c.requires.inside, known.kept)) c.in_ok-follower.ensures);
    }

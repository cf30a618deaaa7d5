use Rattle.std.proofs.Common.{◌≡◌, ◌≤◌, ℕ, List, length, replicate, ap, sym, ◌∙◌, subst, arith, ◌<◌}
use Rattle.std.specs.Prelude.{slice_index}
use Rattle.std.proofs.lemmas.List.{get_or-replicate}
use Rattle.min_cover.specs.inside.Search.{sign_of}
use Rattle.min_cover.specs.inside.Found.{next_in}
use Rattle.min_cover.specs.inside.Classes.{IsClassedBy, rows_of, width_of}
use Rattle.min_cover.proofs.ByFirst.{classes_few}
use Rattle.min_cover.proofs.Rounds.{classes_small, told_rows, told_whole, refined_rows, size_of_rows}
use Rattle.min_cover.proofs.refine.refine.Goals as goal

pub round-requires-2-clause-small : goal.round-requires-2-clause-small
round-requires-2-clause-small c =
    let classes = c.in_ok-classes.classes in
    let known = c.in_ok-classes.ensures in
    let few : length c.args.rows.now ≤ 4096 = omega (arith, c.requires.table.few, size_of_rows c.args.rows.now) in
    subst (λ (l : List ℕ). (q : ℕ) → q < length l → slice_index l q < 4096) (sym c.deref-2.ensures.value)
    (classes_small (length c.args.rows.now) classes.of.items classes.firsts.items known.size known.by_first few)

pub rounds-init : goal.rounds-init
rounds-init c =
    let rows = c.args.rows.now in
    let step = next_in (rows_of rows) in
    let width = width_of (rows_of rows) in
    let whole : c.deref.result.now ≡ replicate (length rows) 0 =
    c.deref.ensures.value ∙ c.in_ok-whole.ensures.items_if_clones_equal (λ y same. same) in
    let classes = c.in_ok-classes.classes in
    let finer = c.in_ok-finer.finer in
    record {
      apart = told_rows width rows c.deref.result.now classes.of.items classes.firsts.items c.requires.table
          (told_whole step (length rows) c.deref.result.now
          (λ q q_in. ap (λ (l : List ℕ). slice_index l q) whole ∙ get_or-replicate (length rows) q 0 0 q_in)) c.in_ok-classes.ensures;
      finer = subst (λ (l : List ℕ). IsClassedBy (sign_of step width (slice_index l)) (length rows) finer.of.items finer.firsts.items)
          c.deref-2.ensures.value c.in_ok-finer.ensures;
    }

pub round-requires-in-rounds-clause-small : goal.round-requires-in-rounds-clause-small
round-requires-in-rounds-clause-small c =
    let classes = c.rounds.finer in
    let known = c.rounds.invariant.finer in
    let few : length c.args.rows.now ≤ 4096 = omega (arith, c.requires.table.few, size_of_rows c.args.rows.now) in
    subst (λ (l : List ℕ). (q : ℕ) → q < length l → slice_index l q < 4096) (sym c.deref-in-rounds.ensures.value)
    (classes_small (length c.args.rows.now) classes.of.items classes.firsts.items known.size known.by_first few)

pub rounds-smaller : goal.rounds-smaller
rounds-smaller c =
    let finer = c.rounds.finer in
    let most : length finer.firsts.items ≤ length c.args.rows.now =
    classes_few (length c.args.rows.now) (slice_index finer.of.items) (length finer.firsts.items) (slice_index finer.firsts.items) c.rounds.invariant.finer.by_first in
    omega (arith, most, c.rounds-test.true, c.len.ensures, c.len-in-rounds.ensures, finer.firsts.ok.0, c.rounds.classes.firsts.ok.0)

pub rounds-preserved : goal.rounds-preserved
rounds-preserved c =
    let rows = c.args.rows.now in
    let step = next_in (rows_of rows) in
    let width = width_of (rows_of rows) in
    let classes = c.rounds.finer in
    let finer = c.in_ok-finer-2.finer in
    record {
      apart = told_rows width rows c.rounds.classes.of.items classes.of.items classes.firsts.items c.requires.table
          c.rounds.invariant.apart.told c.rounds.invariant.finer;
      finer = subst (λ (l : List ℕ). IsClassedBy (sign_of step width (slice_index l)) (length rows) finer.of.items finer.firsts.items)
          c.deref-in-rounds.ensures.value c.in_ok-finer-2.ensures;
    }

pub returns : goal.returns
returns c =
    let rows = c.args.rows.now in
    let classes = c.rounds.classes in
    let finer = c.rounds.finer in
    let few : length finer.firsts.items ≤ length classes.firsts.items =
    omega (arith, c.rounds-test.false, c.len.ensures, c.len-in-rounds.ensures, finer.firsts.ok.0, classes.firsts.ok.0) in
    refined_rows (width_of (rows_of rows)) rows classes.of.items classes.firsts.items finer.of.items finer.firsts.items c.requires.table few
    c.rounds.invariant.apart c.rounds.invariant.finer

use Rattle.std.proofs.Common.{ℕ, ◌<◌, List, length, ap, sym, ◌∙◌, subst}
use Rattle.std.specs.Prelude.{All}
use Rattle.min_cover.specs.inside.Classes.{rows_of, width_of}
use Rattle.min_cover.proofs.Rounds.{row_inside}
use Rattle.min_cover.proofs.GraphRows.{graph_step}
use Rattle.min_cover.proofs.rows.graph_of_classes.Goals as goal

pub edges_of_row-requires : goal.edges_of_row-requires
edges_of_row-requires c =
    let rows = c.args.rows.now in
    let Inside = λ (first : ℕ). first < length rows in
    let firsts = subst (λ (l : List ℕ). All Inside l) (sym c.deref-first-items.ensures.value) c.requires.firsts in
    record {
      inside = row_inside (width_of (rows_of rows)) rows _ (length c.deref-in-loop-first.result.now) c.index-rows-first.result c.deref.result.now
          c.requires.table (firsts c.loop-first.first-index 0 c.loop-first-test.true) c.index-rows-first.is c.deref.ensures.value
          (ap (λ (l : List ℕ). length l) c.deref-in-loop-first.ensures.value ∙ c.requires.size);
    }

pub loop-first-preserved : goal.loop-first-preserved
loop-first-preserved c =
    let rows = c.args.rows.now in
    let Inside = λ (first : ℕ). first < length rows in
    let items = c.deref-first-items.result.now in
    let firsts = subst (λ (l : List ℕ). All Inside l) (sym c.deref-first-items.ensures.value) c.requires.firsts in
    graph_step c.args.classes.now.of.items c.deref-in-loop-first.result.now rows c.args.classes.now.firsts.items items c.loop-first.first-index
    c.loop-first.graph.items c.push.new.self.items c.in_ok-edges_of_row.field-0 c.index-rows-first.result c.deref.result.now
    c.in_ok-push.ensures.items c.deref-first-items.ensures.value c.deref-in-loop-first.ensures.value c.loop-first-test.true
    (firsts c.loop-first.first-index 0 c.loop-first-test.true) c.index-rows-first.is c.deref.ensures.value c.in_ok-edges_of_row.ensures c.loop-first.invariant

use Rattle.std.proofs.Common.{◌≡◌, ap, sym, ◌∙◌, length}
use Rattle.label_graphs.specs.Views.{rows_data}
use Rattle.min_cover.proofs.Whole.{found_graph, found_table, firsts_inside}
use Rattle.min_cover.proofs.minimal.minimal_rows.Goals as goal

pub refine-requires : goal.refine-requires
refine-requires c = record {
  table = found_table c.args.constraint.now c.in_ok-rows.rows.items c.deref.result.now c.deref.ensures.value c.in_ok-rows.ensures.rows;
}

pub graph_of_classes-requires : goal.graph_of_classes-requires
graph_of_classes-requires c =
    let size : length c.deref.result.now ≡ length c.deref-2.result.now = ap length (c.deref.ensures.value ∙ sym c.deref-2.ensures.value) in
    record {
      table = found_table c.args.constraint.now c.in_ok-rows.rows.items c.deref-2.result.now c.deref-2.ensures.value c.in_ok-rows.ensures.rows;
      size = c.in_ok-classes.ensures.size ∙ size;
      firsts = firsts_inside _ (length c.deref.result.now) (length c.deref-2.result.now) c.in_ok-classes.classes.of.items c.in_ok-classes.classes.firsts.items
          c.in_ok-classes.ensures size;
    }

pub returns : goal.returns
returns c = record {
  rows = found_graph c.args.constraint.now c.in_ok-rows.rows.items c.deref.result.now c.deref-2.result.now c.in_ok-classes.classes.of.items
      c.in_ok-classes.classes.firsts.items (rows_data (λ name. name) c.in_ok-graph_of_classes.field-0.items) c.explore.ensures.ranges
      c.deref.ensures.value c.deref-2.ensures.value c.in_ok-rows.ensures.rows c.in_ok-classes.ensures c.in_ok-graph_of_classes.ensures;
  fault = tt;
}

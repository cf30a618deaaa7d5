use Rattle.std.proofs.Common.{None, Some, arith}
use Rattle.text_reading.specs.LineReader.{one_line, parts_from}
use Rattle.text_reading.proofs.LineReaders.{parts_more, parts_wrong, parts_all}
use Rattle.code_tables.specs.inside.Reading.{edge_at, edges_at}
use Rattle.code_tables.proofs.LoopSteps.{line_some, line_none}
use Rattle.code_tables.proofs.graph.read_edges.Goals as goal

pub returns-in_default : goal.returns-in_default
unfolding edges_at
returns-in_default c =
    let line = edge_at c.args.states in
    parts_wrong (λ before. one_line (line before)) (λ before edge. Some edge) 1 c.loop-place.edges.items c.args.count c.loop-place.place c.loop-place.before c.loop-place.line c.loop-place.rest.now c.loop-place.line
    (parts_from (λ before. one_line (line before)) (λ before edge. Some edge) 1 c.args.count None c.args.first c.args.bytes.now)
    c.loop-place-test.true (line_none (line c.loop-place.before) c.loop-place.line c.loop-place.rest.now c.in_default.ensures) c.loop-place.invariant.1

pub loop-place-preserved : goal.loop-place-preserved
loop-place-preserved c =
    let line = edge_at c.args.states in
    rw c.in_ok-push.ensures.items (
      omega (arith, c.loop-place.invariant.0),
      parts_more (λ before. one_line (line before)) (λ before edge. Some edge) 1 c.loop-place.edges.items c.args.count c.loop-place.place c.loop-place.before c.loop-place.line c.loop-place.rest.now c.in-Some.edge c.in-Some.after.now
          (parts_from (λ before. one_line (line before)) (λ before edge. Some edge) 1 c.args.count None c.args.first c.args.bytes.now)
          c.loop-place-test.true (line_some (line c.loop-place.before) c.loop-place.line c.loop-place.rest.now (c.in-Some.edge, c.in-Some.after.now) c.in-Some.ensures) c.loop-place.invariant.1,
    )

pub returns : goal.returns
unfolding edges_at
returns c =
    let line = edge_at c.args.states in
    parts_all (λ before. one_line (line before)) (λ before edge. Some edge) 1 c.loop-place.edges.items c.args.count c.loop-place.place c.loop-place.before c.loop-place.line c.loop-place.rest.now
    (parts_from (λ before. one_line (line before)) (λ before edge. Some edge) 1 c.args.count None c.args.first c.args.bytes.now)
    c.loop-place-test.false c.loop-place.invariant.1

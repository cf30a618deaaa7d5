use Rattle.std.proofs.Common.{map}
use Rattle.code_tables.specs.inside.ReadLines.{sizes_of}
use Rattle.code_tables.proofs.ReadParts.{parts_make_code}
use Rattle.code_tables.proofs.read.whole.Goals as goal

pub invariant_of-result : goal.invariant_of-result
invariant_of-result c =
    (parts_make_code c.args.bytes.now (c.in_ok-d.d, (c.in_ok-d.k, c.in_ok-d.count)) c.in_ok-forbid.forbid.items (c.in-Some.states, c.in-Some.edge_count) c.in_ok-edges.edges.items (sizes_of c.in_ok-sizes.sizes) (map (λ rows. rows.items) c.in_ok-rows.rows.items)
    c.in_ok-d.rest.now c.in_ok-forbid.rest.now c.in-Some.rest.now c.in_ok-edges.rest.now c.in_ok-sizes.rest.now c.in_ok-rows.rest.now
    c.in_ok-d.ensures.read c.in_ok-forbid.ensures c.in-Some.ensures.read c.in_ok-edges.ensures c.in_ok-sizes.ensures.read c.in_ok-rows.ensures).constraint

pub invariant_of-result-2 : goal.invariant_of-result-2
invariant_of-result-2 c =
    parts_make_code c.args.bytes.now (c.in_ok-d.d, (c.in_ok-d.k, c.in_ok-d.count)) c.in_ok-forbid.forbid.items (c.in-Some.states, c.in-Some.edge_count) c.in_ok-edges.edges.items (sizes_of c.in_ok-sizes.sizes) (map (λ rows. rows.items) c.in_ok-rows.rows.items)
    c.in_ok-d.rest.now c.in_ok-forbid.rest.now c.in-Some.rest.now c.in_ok-edges.rest.now c.in_ok-sizes.rest.now c.in_ok-rows.rest.now
    c.in_ok-d.ensures.read c.in_ok-forbid.ensures c.in-Some.ensures.read c.in_ok-edges.ensures c.in_ok-sizes.ensures.read c.in_ok-rows.ensures

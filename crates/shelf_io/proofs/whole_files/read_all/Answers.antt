use Rattle.std.proofs.Common.{refl, rules, arith, vec_len}
use Rattle.shelf_io.specs.Reads.{whole_room}
use Rattle.shelf_io.proofs.ReadsLemmas.{none_read, more_read, and_one_more, read_beyond}
use Rattle.shelf_io.proofs.ShelfLemmas.{read_step, read_end}
use Rattle.shelf_io.proofs.whole_files.read_all.Goals as goal

pub returns-then-count-eq0-clause-whole : goal.returns-then-count-eq0-clause-whole
returns-then-count-eq0-clause-whole g c =
    read_end _ _ c.args.name.now c.loop-count.bytes.items c.read.new.room _ _ c.in-Ok.count c.args.limit c.loop-count.invariant.same c.len.ensures c.if-count-eq0.true (omega arith) (omega arith)
    c.loop-count.invariant.front c.in-Ok.ensures.bytes

pub returns-then-count-limit-clause-reads : goal.returns-then-count-limit-clause-reads
returns-then-count-limit-clause-reads g c =
    read_beyond g.F.Shelf.read_gives c.args.name.now whole_room c.args.shelf.now c.len.result (vec_len c.loop-count.bytes) _ c.in-Ok.count c.args.limit _ _
    c.loop-count.invariant.run c.len.ensures c.loop-count.invariant.asked (search rules) c.in-Ok.ensures.gives (search rules)

pub returns-then-is_err-clause-reads : goal.returns-then-is_err-clause-reads
returns-then-is_err-clause-reads g c = (
  _,
  and_one_more g.F.Shelf.read_gives c.args.name.now whole_room c.args.shelf.now c.len.result (vec_len c.loop-count.bytes) _ c.in-Ok.count _ _
      c.loop-count.invariant.run c.len.ensures c.loop-count.invariant.asked (search rules) c.in-Ok.ensures.gives,
)

pub loop-count-init : goal.loop-count-init
loop-count-init g c = record {
  front = search rules;
  within = search rules;
  same = refl;
  asked = search rules;
  run = none_read _ _ _ _ _ (search rules);
  count = refl;
}

pub loop-count-preserved : goal.loop-count-preserved
loop-count-preserved g c = record {
  front = read_step _ _ c.args.name.now c.loop-count.bytes.items c.read.new.room _ _ _ c.in-Ok.count _ c.loop-count.invariant.same c.len.ensures (search rules) (search rules)
      c.loop-count.invariant.front c.in-Ok.ensures.bytes;
  within = search rules;
  same = search rules;
  asked = search rules;
  run = more_read _ _ _ _ _ _ _ c.in-Ok.count _ _ _ c.loop-count.invariant.run c.len.ensures c.loop-count.invariant.asked (search rules) c.in-Ok.ensures.gives (search rules);
  count = search rules;
}

use Rattle.std.proofs.Common.{◌∙◌, ◌-◌, ◌*◌, ◌/◌, ◌^◌, refl, arith}
use Rattle.std.proofs.lemmas.Nat.{and_mask}
use Rattle.block_codec.proofs.GroupLaws.{bytes_put, bytes_all}
use Rattle.block_codec.proofs.table_decoder.put_number.Goals as goal

pub loop-j-preserved : goal.loop-j-preserved
loop-j-preserved c = record {
  items =
      bytes_put c.args.out.now.items c.loop-j.out.items c.push_reserved.new.self.items c.args.count c.loop-j.j (c.args.count - 1 - c.loop-j.j) c.args.number _ c.loop-j-test.true refl
      c.loop-j.invariant.items (and_mask (c.args.number / 2 ^ (8 * (c.args.count - 1 - c.loop-j.j))) 8) c.push_reserved.ensures.items;
  len = omega (arith, c.push_reserved.ensures.len, c.loop-j.invariant.len);
  capacity = c.push_reserved.ensures.capacity ∙ c.loop-j.invariant.capacity;
}

pub returns-clause-items : goal.returns-clause-items
returns-clause-items c =
    c.loop-j.invariant.items ∙ bytes_all c.args.out.now.items c.args.count c.loop-j.j c.args.number (omega (arith, c.loop-j-test.false, c.loop-j.auto.j-end))

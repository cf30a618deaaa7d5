use Rattle.std.proofs.Common.{◌*◌, ◌≤◌, ◌++◌, refl, ap, ◌∙◌, arith}
use Rattle.symbol_base.specs.Block.{symbols_of}
use Rattle.block_codec.proofs.ReaderLaws.{front_same, front_more}
use Rattle.block_codec.proofs.GroupLaws.{nothing_taken, eight_taken}
use Rattle.block_codec.proofs.table_decoder.TableDecoder.take_groups.Goals as goal

pub loop-blocks-init : goal.loop-blocks-init
loop-blocks-init c = record {
  last = c.requires.code.last;
  eight = c.requires.eight;
  within = omega arith;
  len = omega arith;
  capacity = refl;
  front = front_same c.args.out.now.items;
  groups = nothing_taken c.args.code.now c.args.self.now c.args.piece.now c.args.out.now.items;
}

pub loop-blocks-preserved : goal.loop-blocks-preserved
loop-blocks-preserved c =
    let code = c.args.code.now in
    let held = c.loop-blocks.invariant in
    let words = c.take_eight-words.result in
    let some : 1 ≤ code.q = omega (arith, c.requires.table.p.0, c.requires.table.q.0) in
    let put = c.put_number.ensures.items ∙ ap (λ n. c.loop-blocks.out.items ++ symbols_of 256 n words) c.requires.sizes.p in
    record {
      last = c.take_eight-words.ensures.last;
      eight = c.take_eight-words.ensures.eight;
      within = c.in-Some.ensures.inside;
      len = omega (arith, c.put_number.ensures.len, held.len, c.requires.sizes.p, c.requires.sizes.q, c.requires.table.p.1, some);
      capacity = c.put_number.ensures.capacity ∙ held.capacity;
      front = front_more c.args.out.now.items c.loop-blocks.out.items c.put_number.new.out.items held.front (record { more = symbols_of 256 code.p words; is = put });
      groups =
          eight_taken code c.args.self.now _ _ c.args.piece.now c.args.out.now.items c.loop-blocks.out.items c.put_number.new.out.items c.loop-blocks.at (8 * c.args.sizes.q) c.in-Some.blocks words
          c.requires.table.alphabet (omega (arith, some)) (omega (arith, c.requires.sizes.q)) c.in-Some.ensures.digits put c.take_eight-words.ensures.came c.take_eight-words.ensures.words held.groups;
    }

use Rattle.std.proofs.Common.{◌≡◌, ◌+◌, ◌∷◌, [], ℕ, List, take, refl, subst, ◌∙◌, arith}
use Rattle.std.proofs.lemmas.List.{take_all, take_more}
use Rattle.block_codec.specs.inside.Readers.{GoesOn}
use Rattle.block_codec.proofs.ReaderLaws.{front_more, front_same, goes_nowhere, goes_further, piece_further, stops}
use Rattle.block_codec.proofs.reader.Reader.take_piece.Goals as goal

pub loop-at-init : goal.loop-at-init
loop-at-init c = record {
  code = c.requires.code;
  within = omega arith;
  room = omega arith;
  capacity = refl;
  count = omega arith;
  front = front_same c.args.out.now.items;
  text = λ text bytes has. goes_nowhere c.args.code.now text bytes c.args.out.now.items c.args.self.now has;
}

pub loop-at-preserved-then-taken-gt0 : goal.loop-at-preserved-then-taken-gt0
loop-at-preserved-then-taken-gt0 c =
    let held = c.loop-at.invariant in
    record {
      code = c.take_front-taken.ensures.code;
      within = omega (arith, c.take_front-taken.ensures.inside, held.within);
      room = omega (arith, c.take_front-taken.ensures.len, held.room);
      capacity = c.take_front-taken.ensures.capacity ∙ held.capacity;
      count = omega (arith, c.take_front-taken.ensures.count, held.count);
      front = front_more c.args.out.now.items c.loop-at.out.items c.take_front-taken.new.out.items held.front c.take_front-taken.ensures.front;
      text =
          λ text bytes has.
          piece_further c.args.code.now text bytes c.args.piece.now c.args.out.now.items c.loop-at.out.items c.take_front-taken.new.out.items c.loop-at.at c.take_front-taken.result c.loop-at.self c.take_front-taken.new.self
          (held.text text bytes has) c.take_front-taken.ensures.text;
    }

pub loop-at-preserved : goal.loop-at-preserved
loop-at-preserved c =
    let held = c.loop-at.invariant in
    let code = c.args.code.now in
    let piece = c.args.piece.now in
    let at = c.loop-at.at in
    let out = c.args.out.now.items in
    let none : at + c.take_front-taken.result ≡ at = omega (arith, c.if-taken-gt0.false) in
    let front = front_more out c.loop-at.out.items c.take_front-taken.new.out.items held.front c.take_front-taken.ensures.front in
    record {
      code = c.take_byte.ensures.code;
      within = omega (arith, c.loop-at-test.true);
      room = omega (arith, c.take_byte.ensures.len, c.take_front-taken.ensures.len, held.room, none);
      capacity = c.take_byte.ensures.capacity ∙ c.take_front-taken.ensures.capacity ∙ held.capacity;
      count = omega (arith, c.take_byte.ensures.count, c.take_front-taken.ensures.count, held.count, none);
      front = front_more out c.take_front-taken.new.out.items c.take_byte.new.out.items front c.take_byte.ensures.front;
      text =
          λ text bytes has.
          let quiet =
          subst (λ n. GoesOn code text bytes (take n piece) out c.take_front-taken.new.out.items c.take_front-taken.new.self) none
          (piece_further code text bytes piece out c.loop-at.out.items c.take_front-taken.new.out.items at c.take_front-taken.result c.loop-at.self c.take_front-taken.new.self
          (held.text text bytes has) c.take_front-taken.ensures.text) in
          goes_further code text bytes (take at piece) (_ ∷ []) (take (at + 1) piece) out c.take_front-taken.new.out.items c.take_byte.new.out.items c.take_front-taken.new.self c.take_byte.new.self
          (take_more piece at 0 c.loop-at-test.true) quiet (c.take_byte.ensures.text c.if-take_byte.true);
    }

pub returns-else-take_byte-clause-front : goal.returns-else-take_byte-clause-front
returns-else-take_byte-clause-front c =
    let group = front_more c.args.out.now.items c.loop-at.out.items c.take_front-taken.new.out.items c.loop-at.invariant.front c.take_front-taken.ensures.front in
    front_more c.args.out.now.items c.take_front-taken.new.out.items c.take_byte.new.out.items group c.take_byte.ensures.front

pub returns-else-take_byte-clause-text : goal.returns-else-take_byte-clause-text
returns-else-take_byte-clause-text c = λ text bytes has.
    stops c.args.code.now text bytes c.args.piece.now c.args.out.now.items c.loop-at.out.items c.loop-at.at c.loop-at.self c.loop-at-test.true
    (c.take_byte.ensures.bad c.if-take_byte.false) (c.loop-at.invariant.text text bytes has)

pub returns-clause-text : goal.returns-clause-text
returns-clause-text c = λ text bytes has.
    let all : take c.loop-at.at c.args.piece.now ≡ c.args.piece.now = take_all c.loop-at.at c.args.piece.now (omega (arith, c.loop-at-test.false)) in
    subst (λ (list : List ℕ). GoesOn c.args.code.now text bytes list c.args.out.now.items c.loop-at.out.items c.loop-at.self) all (c.loop-at.invariant.text text bytes has)

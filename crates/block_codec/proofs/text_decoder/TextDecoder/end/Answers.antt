use Rattle.std.proofs.Common.{◌≡◌, ◌+◌, ◌-◌, ◌*◌, ◌/◌, ◌%◌, ◌≤◌, ◌<◌, refl, sym, subst, arith}
use Rattle.std.specs.Prelude.{Ok}
use Rattle.block_codec.specs.TextDecoding.{EndsText}
use Rattle.block_codec.proofs.TextLaws.{reads_on, at_end, ends_at_bad, ends_in_part, ends_too_short, ends_in_byte, ends_well, bits_are}
use Rattle.block_codec.proofs.text_decoder.TextDecoder.end.Goals as goal

pub returns-in-Some : goal.returns-in-Some
returns-in-Some c = record { end = λ code text is for come. ends_at_bad code c.args.self.now text c.in-Some.at c.in-Some.is come }

pub returns-then-not-are_whole_blocks : goal.returns-then-not-are_whole_blocks
returns-then-not-are_whole_blocks c = record {
  end =
      λ code text is for come.
      let self = c.args.self.now in
      let now = reads_on code self text self.fault c.in_default.not-Some come.read in
      let n = c.count-symbols.result in
      let q = c.from-q.result in
      let some : 0 < q = omega (arith, c.from-q.ensures, for.q, is.p.0, is.q.0) in
      ends_in_part code text now.0 self.reader n q self.lead self.p (at_end code text now.0 self n q self.lead self.p for now.1 c.count-symbols.ensures c.from-q.ensures refl refl) now.1
      (λ whole. let full = c.are_whole_blocks.ensures.1 (some, whole) in absurd cc);
}

pub returns-then-blocks-lead : goal.returns-then-blocks-lead
returns-then-blocks-lead c = record {
  end =
      λ code text is for come.
      let self = c.args.self.now in
      let now = reads_on code self text self.fault c.in_default.not-Some come.read in
      let n = c.count-symbols.result in
      let q = c.from-q.result in
      let lead = c.from-lead.result in
      ends_too_short code text now.0 self.reader n q lead self.p (at_end code text now.0 self n q lead self.p for now.1 c.count-symbols.ensures c.from-q.ensures c.from-lead.ensures refl) now.1
      (c.are_whole_blocks.ensures.0 c.if-not-are_whole_blocks.false).1 c.if-blocks-lead.true;
}

pub returns-then-bits-p : goal.returns-then-bits-p
returns-then-bits-p c = record {
  end =
      λ code text is for come.
      let self = c.args.self.now in
      let now = reads_on code self text self.fault c.in_default.not-Some come.read in
      let n = c.count-symbols.result in
      let q = c.from-q.result in
      let lead = c.from-lead.result in
      let p = c.from-p.result in
      let few = bits_are n q lead p c.saturating_mul-bits.result (omega (arith, c.count-symbols.ensures, for.few, for.small)) (omega (arith, c.from-p.ensures, for.p, is.p.1)) c.saturating_mul-bits.ensures in
      ends_in_byte code text now.0 self.reader n q lead p (n / q - lead) (at_end code text now.0 self n q lead p for now.1 c.count-symbols.ensures c.from-q.ensures c.from-lead.ensures c.from-p.ensures) now.1
      (c.are_whole_blocks.ensures.0 c.if-not-are_whole_blocks.false).1 c.if-blocks-lead.false refl (subst (λ bits. p ≤ bits % 8) few c.if-bits-p.true);
}

pub returns : goal.returns
returns c = record {
  end =
      λ code text is for come.
      let self = c.args.self.now in
      let now = reads_on code self text self.fault c.in_default.not-Some come.read in
      let n = c.count-symbols.result in
      let q = c.from-q.result in
      let lead = c.from-lead.result in
      let p = c.from-p.result in
      let few = bits_are n q lead p c.saturating_mul-bits.result (omega (arith, c.count-symbols.ensures, for.few, for.small)) (omega (arith, c.from-p.ensures, for.p, is.p.1)) c.saturating_mul-bits.ensures in
      subst (λ bits. EndsText code text (Ok (bits / 8))) (sym few)
      (ends_well code text now.0 self.reader n q lead p (n / q - lead) is (at_end code text now.0 self n q lead p for now.1 c.count-symbols.ensures c.from-q.ensures c.from-lead.ensures c.from-p.ensures) now.1
      (c.are_whole_blocks.ensures.0 c.if-not-are_whole_blocks.false).1 c.if-blocks-lead.false refl (subst (λ bits. bits % 8 < p) few c.if-bits-p.false));
}

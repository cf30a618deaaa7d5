use Rattle.std.proofs.Common.{◌≡◌, ◌+◌, ◌∷◌, [], subst, sym, ◌∙◌, arith}
use Rattle.block_codec.specs.inside.Readers.{GoesOn}
use Rattle.block_codec.proofs.ReaderLaws.{blank_goes_on, bad_above}
use Rattle.block_codec.proofs.reader.Reader.take_byte.Goals as goal

pub returns-then-is_blank-clause-text : goal.returns-then-is_blank-clause-text
returns-then-is_blank-clause-text c = λ _ text bytes has.
    blank_goes_on c.args.code.now text bytes c.args.out.now.items c.args.byte c.args.self.now (sym c.is_blank.ensures ∙ c.if-is_blank.true) has

pub returns-then-byte-gt49-clause-bad : goal.returns-then-byte-gt49-clause-bad
returns-then-byte-gt49-clause-bad c = λ _.
    bad_above c.args.code.now c.args.byte c.requires.table.alphabet (sym c.is_blank.ensures ∙ c.if-is_blank.false) c.if-byte-gt49.true

pub returns-clause-text : goal.returns-clause-text
returns-clause-text c = λ _ text bytes has.
    let byte : 48 + c.from.result ≡ c.args.byte = omega (arith, c.from.ensures, c.if-byte-lt48.false) in
    subst (λ b. GoesOn c.args.code.now text bytes (b ∷ []) c.args.out.now.items c.take_digit.new.out.items c.take_digit.new.self) byte
    (c.take_digit.ensures.text text bytes has)

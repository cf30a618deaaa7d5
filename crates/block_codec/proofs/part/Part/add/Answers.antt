use Rattle.std.proofs.Common.{refl, arith}
use Rattle.block_codec.proofs.PartLaws.{part_more, whole_below, part_taken}
use Rattle.block_codec.proofs.part.Part.add.Goals as goal

pub returns-then-count-size-clause-digits : goal.returns-then-count-size-clause-digits
returns-then-count-size-clause-digits c = λ held holds.
    part_more c.args.self.now.value c.args.self.now.count c.args.digits c.args.width c.joined-value.result held c.joined-value.ensures.value c.requires.digits holds

pub returns-clause-whole : goal.returns-clause-whole
returns-clause-whole c = whole_below c.joined-value.result _ c.args.size c.joined-value.ensures.below (omega (arith, c.if-count-size.false))

pub returns-clause-digits : goal.returns-clause-digits
returns-clause-digits c = λ held holds.
    part_taken c.joined-value.result _ c.args.size _ _ c.joined-value.ensures.below (omega (arith, c.if-count-size.false)) c.last_digits-rest.ensures.value refl
    (part_more c.args.self.now.value c.args.self.now.count c.args.digits c.args.width c.joined-value.result held c.joined-value.ensures.value c.requires.digits holds)

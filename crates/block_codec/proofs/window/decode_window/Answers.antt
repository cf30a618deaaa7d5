use Rattle.std.proofs.Common.{◌≡◌, ◌<◌, ◌∙◌, ap, subst, length, arith}
use Rattle.std.proofs.lemmas.List.{length-take-le}
use Rattle.symbol_base.specs.declared.Block.{Block}
use Rattle.code_spec.specs.Code.{CodeData, IsCode}
use Rattle.block_codec.proofs.SetLaws.{decoded_between, parts_of}
use Rattle.code_spec.proofs.DecoderLaws.{decoded_below}
use Rattle.block_codec.proofs.window.decode_window.Goals as goal

pub returns-clause-answer : goal.returns-clause-answer
returns-clause-answer c =
    let window = c.args.window.now in
    let none : Block = record { value = 0 } in
    let past : c.code.inside.past ≡ c.args.code.now.past = ap (λ (d : CodeData). d.past) c.code.view_is in
    let inside : c.code.inside.past < length window = omega (arith, c.requires, past) in
    decoded_between c.args.code.now window _ _ _ c.reached-front.result c.readable-back.result c.word_between.result (subst (λ (d : CodeData). IsCode d) c.code.view_is c.code.invariant) (parts_of window c.code.inside.past none inside)
    (length-take-le c.code.inside.past window (omega arith) ∙ past) c.reached-front.ensures c.readable-back.ensures c.word_between.ensures

pub returns-clause-below : goal.returns-clause-below
returns-clause-below c = decoded_below c.args.code.now c.args.window.now c.word_between.result (returns-clause-answer c)

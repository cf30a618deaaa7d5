use Rattle.std.proofs.Common.{◌∷◌, [], ◌++◌, ◌∙◌, subst, List, arith}
use Rattle.symbol_base.specs.declared.Block.{Block}
use Rattle.code_spec.specs.Decoder.{IsDecoded}
use Rattle.block_codec.proofs.Comings.{answer_came}
use Rattle.block_codec.proofs.WalkingLaws.{walk_moved}
use Rattle.block_codec.proofs.walk_decoder.WalkDecoder.take_block.Goals as goal

pub take_block-requires-clause-kept : goal.take_block-requires-clause-kept
take_block-requires-clause-kept c =
    let self = c.args.self.now in
    walk_moved c.args.code.now self.blocks.window.items c.window.result.now self.walk c.move_on.new.self c.args.block (omega (arith, c.requires.code.blocks.size)) (c.window.ensures ∙ c.put-full.ensures.window)
    c.move_on.ensures.steps c.move_on.ensures.start c.requires.code.walk

pub returns-clause-answer : goal.returns-clause-answer
returns-clause-answer c = λ came before.
    let held = c.put-full.ensures.came came before in
    let answer = subst (λ (bs : List Block). IsDecoded c.args.code.now bs c.answer.result) c.window-2.ensures c.answer.ensures.answer in
    answer_came c.args.code.now _ (came ++ c.args.block ∷ []) c.put-full.new.self.count c.answer.result (record { last = held.last; counted = held.counted }) (c.put-full.ensures.full.0 c.if-not-full.false) answer

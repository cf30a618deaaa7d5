use Rattle.std.proofs.Common.{◌∷◌, [], ◌++◌, subst, List}
use Rattle.symbol_base.specs.declared.Block.{Block}
use Rattle.code_spec.specs.Decoder.{IsDecoded}
use Rattle.block_codec.proofs.Comings.{answer_came}
use Rattle.block_codec.proofs.block_decoder.BlockDecoder.take_block.Goals as goal

pub returns-clause-answer : goal.returns-clause-answer
returns-clause-answer c = λ came before.
    let held = c.put.ensures.came came before in
    let answer = subst (λ (bs : List Block). IsDecoded c.args.code.now bs c.decode_window.result) c.deref.ensures.value c.decode_window.ensures.answer in
    answer_came c.args.code.now _ (came ++ c.args.block ∷ []) c.put.new.self.count c.decode_window.result (record { last = held.last; counted = held.counted }) (c.put.ensures.full.0 c.if-not-put.false) answer

use Rattle.std.proofs.Common.{◌≡◌, ◌+◌, ◌++◌, ℕ, take, ap, ◌∙◌, subst}
use Rattle.symbol_base.specs.declared.Block.{Block}
use Rattle.symbol_base.specs.Block.{symbols_of}
use Rattle.code_spec.specs.Code.{CodeData}
use Rattle.code_spec.specs.Output.{row_at}
use Rattle.block_codec.specs.inside.Digits.{digits_of}
use Rattle.block_codec.proofs.DigitLaws.{puts_one}
use Rattle.block_codec.proofs.steps.put_word.Goals as goal

pub returns : goal.returns
returns c =
    let code = c.args.code.now in
    let old = c.args.room.now in
    let new = c.put_block.new.room in
    let block = (row_at code.rows c.args.state c.args.word).block in
    let q : c.code.inside.q ≡ code.q = ap (λ (d : CodeData). d.q) c.code.view_is in
    let value = ap (λ (b : Block). b.value) c.step-next.ensures.block in
    let put = c.put_block.ensures.digits ∙ ap (λ (v : ℕ). take c.args.at old ++ digits_of (symbols_of 2 c.code.inside.q v)) value in
    puts_one code c.args.state c.args.word c.args.at c.step-next.result.1 old new c.step-next.ensures.table.alphabet
    (subst (λ (n : ℕ). take (c.args.at + n) new ≡ take c.args.at old ++ digits_of (symbols_of 2 n block.value)) q put)
    c.step-next.ensures.next c.step-next.ensures.inside c.put_block.ensures.len

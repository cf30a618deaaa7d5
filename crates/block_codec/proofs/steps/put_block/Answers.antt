use Rattle.std.proofs.Common.{◌≡◌, ◌+◌, ◌++◌, List, ℕ, take, ap, ◌∙◌, arith}
use Rattle.std.proofs.lemmas.List.{take_all}
use Rattle.symbol_base.specs.Block.{symbols_of}
use Rattle.symbol_base.proofs.BlockLemmas.{length-symbols_of}
use Rattle.block_codec.specs.inside.Digits.{digits_of}
use Rattle.block_codec.proofs.DigitLaws.{digit_more}
use Rattle.block_codec.proofs.steps.put_block.Goals as goal

pub loop-k-preserved : goal.loop-k-preserved
loop-k-preserved c =
    let word = symbols_of 2 c.args.q c.args.block.value in
    digit_more c.loop-k.room c.args.room.now word c.args.at c.loop-k.k c.symbol.result (omega arith) (omega (arith, length-symbols_of 2 c.args.q c.args.block.value)) c.symbol.ensures.value c.loop-k.invariant

pub returns-clause-digits : goal.returns-clause-digits
returns-clause-digits c =
    let word = symbols_of 2 c.args.q c.args.block.value in
    let end : c.args.at + c.args.q ≡ c.args.at + c.loop-k.k = omega arith in
    ap (λ (n : ℕ). take n c.loop-k.room) end ∙ c.loop-k.invariant
    ∙ ap (λ (symbols : List ℕ). take c.args.at c.args.room.now ++ digits_of symbols) (take_all c.loop-k.k word (omega (arith, length-symbols_of 2 c.args.q c.args.block.value)))

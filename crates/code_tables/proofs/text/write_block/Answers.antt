use Rattle.std.proofs.Common.{◌<◌, ◌∙◌, length, arith}
use Rattle.symbol_base.specs.Block.{symbols_of}
use Rattle.symbol_base.proofs.BlockLemmas.{length-symbols_of}
use Rattle.code_tables.proofs.TextLines.{next_digit, all_digits}
use Rattle.code_tables.proofs.text.write_block.Goals as goal

pub loop-at-preserved : goal.loop-at-preserved
loop-at-preserved c =
    let word = symbols_of c.args.alphabet c.args.q c.args.block.value in
    let inside : c.loop-at.at < length word = omega (arith, length-symbols_of c.args.alphabet c.args.q c.args.block.value) in
    c.in_ok-write_digit.ensures.digit ∙ next_digit _ word _ c.loop-at.at c.symbol.result inside c.symbol.ensures.value c.loop-at.invariant

pub returns-clause-digits : goal.returns-clause-digits
returns-clause-digits c = c.loop-at.invariant ∙ all_digits _ c.args.alphabet c.args.q c.args.block.value c.loop-at.at (omega arith)

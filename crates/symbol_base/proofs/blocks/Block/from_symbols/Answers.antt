use Rattle.std.proofs.Common.{◌+◌, ◌*◌, ◌<◌, get_or, arith, ap}
use Rattle.std.proofs.lemmas.List.{take_more}
use Rattle.symbol_base.proofs.BlockLemmas.{next_fits, next_below, number_of-push}
use Rattle.symbol_base.proofs.blocks.Block.from_symbols.Goals as goal

pub overflow_mul-value : goal.overflow_mul-value
overflow_mul-value c =
    let fits = next_fits c.args.alphabet c.loop-symbol.symbol-index c.loop-symbol.value (omega arith) (omega arith) (omega arith) c.loop-symbol.invariant.below in
    rw c.from.ensures (omega arith)

pub overflow_add-value : goal.overflow_add-value
overflow_add-value c =
    let fits = next_fits c.args.alphabet c.loop-symbol.symbol-index c.loop-symbol.value (omega arith) (omega arith) (omega arith) c.loop-symbol.invariant.below in
    let small : get_or c.args.symbols.now c.loop-symbol.symbol-index 0 < c.args.alphabet = c.requires.over c.loop-symbol.symbol-index 0 (omega arith) in
    rw (c.from.ensures, c.from-in-loop-symbol.ensures) (omega arith)

pub loop-symbol-preserved : goal.loop-symbol-preserved
loop-symbol-preserved c =
    let small : get_or c.args.symbols.now c.loop-symbol.symbol-index 0 < c.args.alphabet = c.requires.over c.loop-symbol.symbol-index 0 (omega arith) in
    let more = take_more c.args.symbols.now c.loop-symbol.symbol-index 0 (omega arith) in
    rw (c.from.ensures, c.from-in-loop-symbol.ensures) (record {
      number = rw (more, number_of-push) (ap (λ n. n * c.args.alphabet + get_or c.args.symbols.now c.loop-symbol.symbol-index 0) c.loop-symbol.invariant.number);
      below = next_below c.args.alphabet c.loop-symbol.symbol-index c.loop-symbol.value _ small c.loop-symbol.invariant.below;
    })

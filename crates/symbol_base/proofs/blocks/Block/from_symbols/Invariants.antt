use Rattle.std.proofs.Common.{◌≡◌, ◌<◌, ◌^◌, take}
use Rattle.symbol_base.specs.Block.{number_of}
use Rattle.symbol_base.proofs.blocks.Block.from_symbols.Given as goal

abbrev pub invariant-loop-symbol : goal.invariant-loop-symbol
invariant-loop-symbol l = record {
  number : l.value ≡ number_of l.alphabet (take l.symbol-index l.symbols);
  below : l.value < l.alphabet ^ l.symbol-index;
}

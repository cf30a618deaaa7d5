use Rattle.std.proofs.Common.{◌≡◌, ◌++◌, take}
use Rattle.std.specs.Prelude.{string_bytes}
use Rattle.symbol_base.specs.Block.{symbols_of}
use Rattle.code_text_spec.specs.CodeText.{digits}
use Rattle.code_tables.proofs.text.write_block.Given as goal

abbrev pub invariant-loop-at : goal.invariant-loop-at
invariant-loop-at l = string_bytes l.text ≡ string_bytes l.initial.text ++ digits (take l.at (symbols_of l.alphabet l.q l.block.value))

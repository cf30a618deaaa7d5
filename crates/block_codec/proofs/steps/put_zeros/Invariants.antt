use Rattle.std.proofs.Common.{◌≡◌, ◌*◌, replicate}
use Rattle.block_codec.specs.inside.Digits.{PutsDigits}
use Rattle.block_codec.proofs.steps.put_zeros.Given as goal

-- as many zero words as turns are put
abbrev pub invariant-loop : goal.invariant-loop
invariant-loop l = record {
  puts : PutsDigits l.code l.fn.state (replicate l.counter 0) 0 l.fn.room l.room l.state;
  at : l.at ≡ l.code.q * l.counter;
}

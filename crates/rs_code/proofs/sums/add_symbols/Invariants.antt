use Rattle.std.proofs.Common.{◌≡◌, take, drop}
use Rattle.rs_code.specs.Polynomial.{sum_of}
use Rattle.rs_code.proofs.sums.add_symbols.Given as goal

abbrev pub invariant-loop-i : goal.invariant-loop-i
invariant-loop-i l = record {
  added : take l.i l.word ≡ take l.i (sum_of l.initial.word l.others);
  left : drop l.i l.word ≡ drop l.i l.initial.word;
}

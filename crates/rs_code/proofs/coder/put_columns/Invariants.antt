use Rattle.std.proofs.Common.{◌≡◌, ℕ, ◌+◌, ◌*◌, ◌<◌, get_or, []}
use Rattle.rs_code.proofs.coder.put_columns.Given as goal

abbrev pub invariant-loop-k : goal.invariant-loop-k
invariant-loop-k l = (j w : ℕ) → w < l.many → j < l.k → get_or l.out (j * l.many + w) 0 ≡ get_or (get_or l.rows w []) j 0

abbrev pub invariant-loop-v : goal.invariant-loop-v
invariant-loop-v l = record {
  before : (j w : ℕ) → w < l.many → j < l.k → get_or l.out (j * l.many + w) 0 ≡ get_or (get_or l.rows w []) j 0;
  here : (w : ℕ) → w < l.v → get_or l.out (l.k * l.many + w) 0 ≡ get_or (get_or l.rows w []) l.k 0;
}

use Rattle.std.proofs.Common.{ℕ, List, ◌*◌, ◌≤◌, take}
use Rattle.rs_code.specs.inside.Register.{AreRows, AreFarRows, IsRest, register}
use Rattle.rs_code.proofs.coder.narrow_rest.Given as goal

abbrev pub invariant-loop-s : goal.invariant-loop-s
invariant-loop-s l = (t : ℕ) (low far_low : List ℕ) → t ≤ 8 → AreRows t l.rows low → AreFarRows l.rows low l.far_rows far_low
    → IsRest t (take (2 * l.s) l.symbols) (register l.rest 0)

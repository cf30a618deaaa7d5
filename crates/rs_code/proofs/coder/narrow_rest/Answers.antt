use Rattle.std.proofs.Common.{◌≡◌, ◌+◌, ◌-◌, ◌*◌, ◌/◌, ◌%◌, ◌^◌, ℕ, List, length, refl, ap, arith, subst, get_or}
use Rattle.std.specs.Prelude.{bit_xor}
use Rattle.std.proofs.lemmas.List.{take_all}
use Rattle.rs_code.specs.inside.Register.{IsRest, register}
use Rattle.rs_code.proofs.Registers.{rest_none}
use Rattle.rs_code.proofs.Pairs.{narrow_pair_more, narrow_last}
use Rattle.rs_code.proofs.coder.narrow_rest.Goals as goal

pub loop-s-init : goal.loop-s-init
loop-s-init c = λ t low far_low small rows far. rest_none t c.args.symbols.now

pub loop-s-preserved : goal.loop-s-preserved
loop-s-preserved c = λ t low far_low small rows far.
    let symbols : List ℕ = c.args.symbols.now in
    let k : ℕ = 2 * c.loop-s.s in
    let n : ℕ = c.loop-s.rest in
    narrow_pair_more t c.args.rows.now low c.args.far_rows.now far_low symbols k (2 * (c.loop-s.s + 1)) n _ _ small rows far
    (omega arith) (omega (arith, c.loop-s-test.true))
    (omega (arith, c.type_inv.symbols k)) (omega (arith, c.type_inv.symbols (k + 1)))
    (ap (λ h. bit_xor h (get_or symbols k 0)) (let top : n / 2 ^ 120 ≡ n / 2 ^ 120 % 256 = omega arith in top)) refl
    (c.loop-s.invariant t low far_low small rows far)

pub returns-then-symbols-eq0 : goal.returns-then-symbols-eq0
returns-then-symbols-eq0 c = λ t low far_low small rows far.
    subst (λ xs. IsRest t xs (register c.loop-s.rest 0))
    (take_all (2 * c.loop-s.s) c.args.symbols.now (omega (arith, c.loop-s-test.false, c.if-symbols-eq0.true)))
    (c.loop-s.invariant t low far_low small rows far)

pub returns : goal.returns
returns c = λ t low far_low small rows far.
    let symbols : List ℕ = c.args.symbols.now in
    let k : ℕ = 2 * c.loop-s.s in
    let n : ℕ = c.loop-s.rest in
    let long : length symbols ≡ k + 1 = omega (arith, c.loop-s-test.false, c.if-symbols-eq0.false) in
    let last : length symbols - 1 ≡ k = omega (arith, long) in
    narrow_last t c.args.rows.now low symbols k n (get_or symbols (length symbols - 1) 0) _ small rows long (ap (λ i. get_or symbols i 0) last)
    (omega (arith, c.type_inv.symbols k))
    (ap (λ h. bit_xor h (get_or symbols (length symbols - 1) 0)) (let top : n / 2 ^ 120 ≡ n / 2 ^ 120 % 256 = omega arith in top))
    (c.loop-s.invariant t low far_low small rows far)

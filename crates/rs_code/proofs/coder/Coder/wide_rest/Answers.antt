use Rattle.std.proofs.Common.{◌≡◌, ◌+◌, ◌-◌, ◌*◌, ◌/◌, ◌%◌, ◌^◌, ℕ, List, length, refl, ap, arith, subst, take, get_or}
use Rattle.std.specs.Prelude.{bit_xor}
use Rattle.std.proofs.lemmas.List.{take_all}
use Rattle.rs_code.specs.inside.Register.{IsRest, register}
use Rattle.rs_code.proofs.Registers.{rest_none}
use Rattle.rs_code.proofs.Pairs.{wide_pair_more, wide_last}
use Rattle.rs_code.proofs.coder.Coder.wide_rest.Goals as goal

pub loop-s-init : goal.loop-s-init
loop-s-init c = rest_none c.self.inside.t c.args.symbols.now

pub loop-s-preserved : goal.loop-s-preserved
loop-s-preserved c =
    let symbols : List ℕ = c.args.symbols.now in
    let k : ℕ = 2 * c.loop-s.s in
    let n : ℕ = c.loop-s.high in
    wide_pair_more c.self.inside.t c.self.inside.high c.self.inside.low c.self.inside.far_high c.self.inside.far_low symbols k (2 * (c.loop-s.s + 1)) n
    c.loop-s.low _ _ (omega arith) c.self.invariant.0 c.self.invariant.1 (omega arith) (omega (arith, c.loop-s-test.true))
    (omega (arith, c.type_inv.symbols k)) (omega (arith, c.type_inv.symbols (k + 1)))
    (ap (λ h. bit_xor h (get_or symbols k 0)) (let top : n / 2 ^ 120 ≡ n / 2 ^ 120 % 256 = omega arith in top)) refl
    c.loop-s.invariant

pub returns-then-symbols-eq0 : goal.returns-then-symbols-eq0
returns-then-symbols-eq0 c =
    subst (λ xs. IsRest c.args.self.now xs (register c.loop-s.high c.loop-s.low))
    (take_all (2 * c.loop-s.s) c.args.symbols.now (omega (arith, c.loop-s-test.false, c.if-symbols-eq0.true)))
    (subst (λ t. IsRest t (take (2 * c.loop-s.s) c.args.symbols.now) (register c.loop-s.high c.loop-s.low)) c.self.view_is c.loop-s.invariant)

pub returns : goal.returns
returns c =
    let symbols : List ℕ = c.args.symbols.now in
    let k : ℕ = 2 * c.loop-s.s in
    let n : ℕ = c.loop-s.high in
    let m : ℕ = c.loop-s.low in
    let long : length symbols ≡ k + 1 = omega (arith, c.loop-s-test.false, c.if-symbols-eq0.false) in
    let last : length symbols - 1 ≡ k = omega (arith, long) in
    let place : ℕ = bit_xor (n / 2 ^ 120) (get_or symbols (length symbols - 1) 0) in
    subst (λ t. IsRest t symbols (register
    (bit_xor (bit_xor ((n * 2 ^ 8) % 2 ^ 128) (m / 2 ^ 120)) (get_or c.self.inside.high place 0)) (bit_xor ((m * 2 ^ 8) % 2 ^ 128) (get_or c.self.inside.low place 0))))
    c.self.view_is
    (wide_last c.self.inside.t c.self.inside.high c.self.inside.low symbols k n m (get_or symbols (length symbols - 1) 0) place (m / 2 ^ 120)
    c.self.invariant.0 long (ap (λ i. get_or symbols i 0) last) (omega (arith, c.type_inv.symbols k))
    (ap (λ h. bit_xor h (get_or symbols (length symbols - 1) 0)) (let top : n / 2 ^ 120 ≡ n / 2 ^ 120 % 256 = omega arith in top))
    (let low_top : m / 2 ^ 120 ≡ m / 2 ^ 120 % 256 = omega arith in low_top)
    c.loop-s.invariant)

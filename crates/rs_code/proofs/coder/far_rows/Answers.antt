use Rattle.std.proofs.Common.{◌≡◌, ◌∙◌, ◌*◌, ◌/◌, ◌%◌, ◌^◌, ◌<◌, ℕ, List, sym, ap, ap₂, arith, length-set, get_or}
use Rattle.std.specs.Prelude.{bit_xor}
use Rattle.gf256.proofs.FieldLaws.{plus-zero}
use Rattle.rs_code.specs.inside.Register.{wide_step, wide_step_behind}
use Rattle.rs_code.proofs.Steps.{bit_xor-plus, written_more}
use Rattle.rs_code.proofs.coder.far_rows.Goals as goal

-- the top byte with 0 added
place_is : (n : ℕ) → n / 2 ^ 120 < 256 → n / 2 ^ 120 ≡ bit_xor (n / 2 ^ 120 % 256) 0
place_is n small =
    (let same : n / 2 ^ 120 ≡ n / 2 ^ 120 % 256 = omega (arith, small) in same)
    ∙ sym (bit_xor-plus (n / 2 ^ 120 % 256) 0 ∙ plus-zero (n / 2 ^ 120 % 256))

pub loop-f-preserved : goal.loop-f-preserved
loop-f-preserved c =
    let high : List ℕ = c.args.high.now in
    let low : List ℕ = c.args.low.now in
    let f : ℕ = c.loop-f.f in
    let n : ℕ = get_or high f 0 in
    let m : ℕ = get_or low f 0 in
    let place : n / 2 ^ 120 ≡ bit_xor (n / 2 ^ 120 % 256) 0 = place_is n (omega arith) in
    let carry : m / 2 ^ 120 ≡ m / 2 ^ 120 % 256 = omega arith in
    record {
      high_full = length-set c.loop-f.far_high f _ ∙ c.loop-f.invariant.high_full;
      low_full = length-set c.loop-f.far_low f _ ∙ c.loop-f.invariant.low_full;
      front = written_more c.loop-f.far_high (λ k. wide_step high (get_or high k 0) (get_or low k 0) 0) f _
          (omega (arith, c.loop-f.invariant.high_full, c.loop-f-test.true)) c.loop-f.invariant.front
          (ap₂ (λ b p. bit_xor (bit_xor ((n * 2 ^ 8) % 2 ^ 128) b) (get_or high p 0)) carry place);
      back = written_more c.loop-f.far_low (λ k. wide_step_behind low (get_or high k 0) (get_or low k 0) 0) f _
          (omega (arith, c.loop-f.invariant.low_full, c.loop-f-test.true)) c.loop-f.invariant.back
          (ap (λ p. bit_xor ((m * 2 ^ 8) % 2 ^ 128) (get_or low p 0)) place);
    }

pub returns : goal.returns
returns c = record {
  front = λ f h. c.loop-f.invariant.front f (omega (arith, h, c.loop-f-test.false));
  back = λ f h. c.loop-f.invariant.back f (omega (arith, h, c.loop-f-test.false));
}

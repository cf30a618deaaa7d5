use Rattle.std.proofs.Common.{◌≡◌, ◌+◌, ◌*◌, ◌∷◌, [], ℕ, length, replicate, ap, arith}
use Rattle.std.proofs.lemmas.List.{replicate_more, length-replicate}
use Rattle.code_spec.specs.Code.{CodeData}
use Rattle.block_codec.proofs.DigitLaws.{puts_none, puts_then}
use Rattle.block_codec.proofs.steps.put_zeros.Goals as goal

pub loop-init : goal.loop-init
loop-init c = record { puts = puts_none c.args.code.now c.args.state 0 c.args.room.now c.requires.state; at = omega arith }

pub loop-preserved : goal.loop-preserved
loop-preserved c =
    let code = c.args.code.now in
    let n = c.loop.counter in
    let q : c.code.inside.q ≡ code.q = ap (λ (d : CodeData). d.q) c.code.view_is in
    let more : code.q * (n + 1) ≡ code.q * n + code.q = grind arith in
    let at = c.loop.at in
    let next : at + c.code.inside.q ≡ code.q * (n + 1) = omega (arith, c.loop.invariant.at, more, q) in
    let count : code.q * length (replicate n 0) ≡ code.q * n = ap (λ (m : ℕ). code.q * m) (length-replicate {A = ℕ} n 0) in
    let there : at ≡ 0 + code.q * length (replicate n 0) = omega (arith, c.loop.invariant.at, count) in
    record {
      puts = puts_then code c.args.state c.loop.state c.put_word-state.result 0 at (replicate n 0) (0 ∷ []) (replicate (n + 1) 0) c.args.room.now c.loop.room c.put_word-state.new.room
          (replicate_more n 0) there c.loop.invariant.puts c.put_word-state.ensures;
      at = next;
    }

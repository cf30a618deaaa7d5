use Rattle.std.proofs.Common.{◌≡◌, ◌+◌, ◌*◌, ◌∷◌, [], ℕ, length, ap, ◌∙◌, arith}
use Rattle.symbol_base.specs.Bits.{bits, word_at}
use Rattle.code_spec.specs.Code.{CodeData}
use Rattle.block_codec.proofs.DigitLaws.{puts_none, puts_then}
use Rattle.block_codec.proofs.ItemLaws.{words_to, words_more, length-words_to}
use Rattle.block_codec.proofs.steps.put_file.Goals as goal

pub loop-j-init : goal.loop-j-init
loop-j-init c = record { puts = puts_none c.args.code.now c.args.state 0 c.args.room.now c.requires.state; at = omega arith }

pub loop-j-preserved : goal.loop-j-preserved
loop-j-preserved c =
    let code = c.args.code.now in
    let file = c.args.file.now in
    let j = c.loop-j.j in
    let word = c.take_word-word.result in
    let q : c.code.inside.q ≡ code.q = ap (λ (d : CodeData). d.q) c.code.view_is in
    let more : code.q * (j + 1) ≡ code.q * j + code.q = grind arith in
    let count : code.q * length (words_to code.p file j) ≡ code.q * j = ap (λ (m : ℕ). code.q * m) (length-words_to code.p file j) in
    let there : c.loop-j.at ≡ 0 + code.q * length (words_to code.p file j) = omega (arith, c.loop-j.invariant.at, count) in
    let word_is : word ≡ word_at (bits file) (code.p * j) code.p =
    c.take_word-word.ensures.value ∙ ap (λ (n : ℕ). word_at (bits file) (n * j) c.code.inside.p) c.from.ensures ∙ ap (λ (d : CodeData). word_at (bits file) (d.p * j) d.p) c.code.view_is in
    record {
      puts = puts_then code c.args.state c.loop-j.state c.put_word-state.result 0 c.loop-j.at (words_to code.p file j) (word ∷ []) (words_to code.p file (j + 1)) c.args.room.now c.loop-j.room
          c.put_word-state.new.room (words_more code.p file j word word_is) there c.loop-j.invariant.puts c.put_word-state.ensures;
      at = omega (arith, c.loop-j.invariant.at, more, q);
    }

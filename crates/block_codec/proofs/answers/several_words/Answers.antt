use Rattle.std.proofs.Common.{◌≡◌, ◌+◌, ◌-◌, ◌*◌, ◌/◌, ◌%◌, ◌^◌, ◌<◌, sym, ap, subst, ◌∙◌, arith}
use Rattle.code_spec.specs.Decoder.{window_length, IsDecoded}
use Rattle.code_spec.proofs.DecoderLaws.{decoded_below}
use Rattle.block_codec.specs.inside.Answers.{window_of, window_count}
use Rattle.block_codec.proofs.GroupLaws.{HasWords, words_more, words_all}
use Rattle.block_codec.proofs.answers.several_words.Goals as goal

pub joined_wide-words-requires-clause-digits : goal.joined_wide-words-requires-clause-digits
joined_wide-words-requires-clause-digits c =
    let code = c.args.code.now in
    let window = c.last_digits_wide-window.result in
    let below : window < window_count code =
    subst (λ n. window < 2 ^ (n * window_length code)) c.requires.sizes.q (subst (λ n. window < 2 ^ (c.args.sizes.q * n)) c.requires.sizes.length c.last_digits_wide-window.ensures.below) in
    let answer : IsDecoded code (window_of code window) c.from.result = subst (λ w. IsDecoded code (window_of code window) w) (sym c.from.ensures) (c.requires.table.answer window below) in
    subst (λ n. c.from.result < 2 ^ n) (sym c.requires.sizes.p) (decoded_below code (window_of code window) c.from.result answer)

pub loop-k-preserved : goal.loop-k-preserved
loop-k-preserved c =
    let code = c.args.code.now in
    let window = c.last_digits_wide-window.result in
    let k = c.loop-k.k in
    let words = c.loop-k.words in
    let entry = c.from.result in
    let more = c.joined_wide-words.result in
    let below : window < window_count code =
    subst (λ n. window < 2 ^ (n * window_length code)) c.requires.sizes.q (subst (λ n. window < 2 ^ (c.args.sizes.q * n)) c.requires.sizes.length c.last_digits_wide-window.ensures.below) in
    let answer : IsDecoded code (window_of code window) entry = subst (λ w. IsDecoded code (window_of code window) w) (sym c.from.ensures) (c.requires.table.answer window below) in
    let window_is = c.last_digits_wide-window.ensures.value
    ∙ ap (λ n. c.args.here / 2 ^ (c.args.sizes.q * (c.args.last - k)) % 2 ^ (c.args.sizes.q * n)) c.requires.sizes.length
    ∙ ap (λ n. c.args.here / 2 ^ (n * (c.args.last - k)) % 2 ^ (n * window_length code)) c.requires.sizes.q in
    let more_is = c.joined_wide-words.ensures.value ∙ ap (λ n. words * 2 ^ n + entry) c.requires.sizes.p in
    let size = code.p * k + code.p in
    let whole : size ≡ code.p * (k + 1) = grind arith in
    let small : more < 2 ^ size = subst (λ n. more < 2 ^ (n * k + n)) c.requires.sizes.p c.joined_wide-words.ensures.below in
    words_more code c.args.last c.args.here k (c.args.last - k) window words entry more (omega (arith, c.loop-k-test.true)) window_is answer more_is (subst (λ n. more < 2 ^ n) whole small) c.loop-k.invariant

pub returns-clause-words : goal.returns-clause-words
returns-clause-words c =
    let end : c.loop-k.k ≡ c.args.last + 1 = omega (arith, c.loop-k-test.false, c.loop-k.auto.k-end) in
    words_all c.args.code.now c.args.last c.args.here c.loop-k.words (subst (λ n. HasWords c.args.code.now c.args.last c.args.here n c.loop-k.words) end c.loop-k.invariant)

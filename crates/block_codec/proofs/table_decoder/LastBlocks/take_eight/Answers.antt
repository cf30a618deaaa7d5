use Rattle.std.proofs.Common.{◌+◌, ◌-◌, ◌*◌, ◌%◌, ◌^◌, ◌≤◌, length, ap, subst, ◌∙◌, arith, List}
use Rattle.std.proofs.lemmas.List.{length-append}
use Rattle.symbol_base.specs.declared.Block.{Block}
use Rattle.symbol_base.specs.Block.{symbols_of}
use Rattle.code_spec.specs.Decoder.{window_length, AreDecoded}
use Rattle.block_codec.specs.inside.Answers.{blocks_in}
use Rattle.block_codec.proofs.AnswerLaws.{length-blocks_in}
use Rattle.block_codec.proofs.GroupLaws.{here_made, blocks_joined, window_of_eight, decoded_joined}
use Rattle.block_codec.proofs.table_decoder.LastBlocks.take_eight.Goals as goal

pub returns-clause-came : goal.returns-clause-came
returns-clause-came c = λ came before.
    let code = c.args.code.now in
    let self = c.args.self.now in
    let here = c.joined_wide-here.result in
    let count = c.requires.sizes.length in
    let same = c.requires.sizes.q in
    let long : window_length code ≤ length came + 1 = omega (arith, c.requires.eight.enough, before.counted) in
    let low = c.last_digits_wide-before.ensures.value ∙ ap (λ n. n % 2 ^ (c.args.sizes.q * (c.args.sizes.length - 1))) c.from.ensures in
    let here_is = here_made code c.args.sizes.q c.args.sizes.length self.window c.last_digits_wide-before.result here c.args.blocks same count low c.joined_wide-here.ensures.value in
    let joined = blocks_joined code self.window c.args.blocks here came c.requires.blocks long before.last here_is in
    let new_is = c.last_digits_wide.ensures.value ∙ ap (λ n. here % 2 ^ (c.args.sizes.q * n)) count ∙ ap (λ n. here % 2 ^ (n * window_length code)) same in
    record { last = window_of_eight code c.args.blocks here c.last_digits_wide.result came long joined new_is; counted = omega (arith, count, long, length-append came (blocks_in code.q 8 c.args.blocks), length-blocks_in code.q 8 c.args.blocks) }

pub returns-clause-words : goal.returns-clause-words
returns-clause-words c = λ came words before decoded.
    let code = c.args.code.now in
    let self = c.args.self.now in
    let here = c.joined_wide-here.result in
    let count = c.requires.sizes.length in
    let same = c.requires.sizes.q in
    let long : window_length code ≤ length came + 1 = omega (arith, c.requires.eight.enough, before.counted) in
    let low = c.last_digits_wide-before.ensures.value ∙ ap (λ n. n % 2 ^ (c.args.sizes.q * (c.args.sizes.length - 1))) c.from.ensures in
    let here_is = here_made code c.args.sizes.q c.args.sizes.length self.window c.last_digits_wide-before.result here c.args.blocks same count low c.joined_wide-here.ensures.value in
    let joined = blocks_joined code self.window c.args.blocks here came c.requires.blocks long before.last here_is in
    decoded_joined code came (blocks_in code.q 8 c.args.blocks) words (symbols_of (2 ^ code.p) 8 c.eight_words.result) long decoded
    (subst (λ (bs : List Block). AreDecoded code bs (symbols_of (2 ^ code.p) 8 c.eight_words.result)) joined c.eight_words.ensures.words)

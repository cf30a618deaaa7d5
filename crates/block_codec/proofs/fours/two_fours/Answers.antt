use Rattle.std.proofs.Common.{◌≡◌, ◌+◌, ◌*◌, ◌/◌, ◌%◌, ◌^◌, ◌<◌, length, sym, ap, subst, ◌∙◌}
use Rattle.code_spec.specs.Decoder.{window_length}
use Rattle.block_codec.specs.inside.Fours.{IsFour}
use Rattle.block_codec.proofs.FourLaws.{fours_joined}
use Rattle.block_codec.proofs.fours.two_fours.Goals as goal

pub returns-clause-words : goal.returns-clause-words
returns-clause-words c =
    let code = c.args.code.now in
    let fours = c.args.fours.now in
    let here = c.args.here in
    let early = c.last_digits_wide-early.result in
    let late = c.last_digits_wide-late.result in
    let size : c.args.sizes.q * (c.args.sizes.length + 3) ≡ code.q * (window_length code + 3) =
    ap (λ n. c.args.sizes.q * (n + 3)) c.requires.sizes.length ∙ ap (λ n. n * (window_length code + 3)) c.requires.sizes.q in
    let count : 2 ^ (c.args.sizes.q * (c.args.sizes.length + 3)) ≡ length fours = ap (λ n. 2 ^ n) size ∙ sym c.requires.fours.entries in
    let early_is = c.last_digits_wide-early.ensures.value ∙ ap (λ n. here / 2 ^ (c.args.sizes.q * 4) % 2 ^ n) size ∙ ap (λ n. here / 2 ^ (n * 4) % 2 ^ (code.q * (window_length code + 3))) c.requires.sizes.q in
    let late_is = c.last_digits_wide-late.ensures.value ∙ ap (λ n. here % 2 ^ n) size in
    let first : IsFour code early c.from.result =
    subst (λ n. IsFour code early n) (sym c.from.ensures) (c.requires.fours.four early (subst (λ n. early < n) count c.last_digits_wide-early.ensures.below)) in
    let second : IsFour code late c.from-2.result =
    subst (λ n. IsFour code late n) (sym c.from-2.ensures) (c.requires.fours.four late (subst (λ n. late < n) count c.last_digits_wide-late.ensures.below)) in
    let number_is = c.joined_wide.ensures.value ∙ ap (λ n. c.from.result * 2 ^ (n * 4) + c.from-2.result) c.requires.sizes.p in
    fours_joined code here early late c.from.result c.from-2.result c.joined_wide.result early_is late_is first second number_is

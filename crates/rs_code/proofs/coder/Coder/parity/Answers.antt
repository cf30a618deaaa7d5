use Rattle.std.proofs.Common.{◌≡◌, ◌∙◌, ◌*◌, ap, arith, length, take}
use Rattle.std.proofs.lemmas.List.Elements.{All-from_get_or}
use Rattle.gf256.specs.Field.{IsElement}
use Rattle.rs_code.specs.Word.{weighted_sum}
use Rattle.rs_code.proofs.Encoding.{completed_word}
use Rattle.rs_code.proofs.Registers.{check_sums}
use Rattle.rs_code.proofs.coder.Coder.parity.Goals as goal

pub returns : goal.returns
returns c =
    let t = c.args.self.now in
    let out = c.copy_from_slice.new.self in
    let room : length out ≡ 2 * t = c.copy_from_slice.ensures.len ∙ c.requires.room in
    let checks : out ≡ take (2 * t) c.check_symbols-checks.result =
    c.copy_from_slice.ensures.after ∙ ap (λ n. take n c.check_symbols-checks.result) c.requires.room in
    completed_word t c.args.symbols.now out (omega (arith, room, c.requires.room, c.requires.short))
    (All-from_get_or IsElement c.args.symbols.now 0 (λ i h. omega (arith, c.type_inv.symbols i)))
    (All-from_get_or IsElement out 0 (λ i h. omega (arith, c.type_inv.out i))) room
    (λ i h. ap (λ xs. weighted_sum xs i) checks ∙ check_sums t c.args.symbols.now c.check_symbols-checks.result c.check_symbols-checks.ensures.most c.check_symbols-checks.ensures.rest i h)

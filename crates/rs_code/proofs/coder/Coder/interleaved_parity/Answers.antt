use Rattle.std.proofs.Common.{◌≡◌, ◌∙◌, ◌*◌, ◌/◌, ℕ, List, sym, arith, ap, length, get_or, []}
use Rattle.std.proofs.lemmas.Nat.{div-add-mod'}
use Rattle.rs_code.proofs.Interleaves.{interleaved_word}
use Rattle.rs_code.proofs.coder.Coder.interleaved_parity.Goals as goal

pub returns : goal.returns
returns c = λ v inside.
    let many : ℕ = c.args.many in
    let out : List ℕ = c.put_columns.new.out in
    let symbols : List ℕ = c.args.symbols.now in
    let same : length out ≡ length c.args.out.now = c.put_columns.auto.out in
    let rows : length symbols ≡ length symbols / many * many = sym (div-add-mod' (length symbols) many) ∙ omega (arith, c.requires.whole) in
    interleaved_word c.args.self.now many v (length symbols / many) symbols out (get_or c.interleaved_checks-checks.result v [])
    c.interleaved_checks-checks.ensures.most inside rows (same ∙ c.requires.room) (omega (arith, same, c.requires.short))
    (λ i. omega (arith, c.type_inv.symbols i)) (λ i. omega (arith, c.type_inv.out i))
    (c.interleaved_checks-checks.ensures.rests v inside)
    (λ k h. c.put_columns.ensures k v inside (omega (arith, h, ap (λ n. n / many) same)))

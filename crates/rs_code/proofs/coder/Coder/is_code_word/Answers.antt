use Rattle.std.proofs.Common.{◌≡◌, replicate, arith}
use Rattle.std.specs.Bool.{Decides}
use Rattle.std.proofs.lemmas.Bool.Decides.{Decides-eqb}
use Rattle.std.proofs.lemmas.Slice.Eq.{slice_eq-Decides}
use Rattle.rs_code.proofs.Remainders.{member_is_zero}
use Rattle.rs_code.proofs.coder.Coder.is_code_word.Goals as goal

pub returns : goal.returns
returns c =
    let rest = c.remainder.result in
    let member = member_is_zero c.args.self.now c.args.word.now rest c.remainder.ensures.most c.requires.short c.remainder.ensures.elements
    (omega arith) c.remainder.ensures.remainder c.remainder.ensures.zeros in
    let same : Decides c.eq.result (rest ≡ replicate 32 0) = slice_eq-Decides Decides-eqb rest (replicate 32 0) c.eq.result c.eq.ensures in
    ((λ e. member.1 (same.0 e)), (λ h. same.1 (member.0 h)))

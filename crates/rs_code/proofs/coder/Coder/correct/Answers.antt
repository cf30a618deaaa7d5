use Rattle.std.proofs.Common.{◌≡◌, replicate, arith, sym}
use Rattle.std.specs.Bool.{Decides}
use Rattle.std.proofs.lemmas.Bool.Decides.{Decides-eqb}
use Rattle.std.proofs.lemmas.Slice.Eq.{slice_eq-Decides}
use Rattle.rs_code.proofs.Words.{near_is_single}
use Rattle.rs_code.proofs.Patterns.{differences-same}
use Rattle.rs_code.proofs.Remainders.{member_is_zero, near_if_member}
use Rattle.rs_code.proofs.coder.Coder.correct.Goals as goal

pub returns-then-eq-clause-near : goal.returns-then-eq-clause-near
returns-then-eq-clause-near c =
    let rest = c.remainder-rest.result in
    let member = member_is_zero c.args.self.now c.args.word.now rest c.remainder-rest.ensures.most c.requires.short c.remainder-rest.ensures.elements
    (omega arith) c.remainder-rest.ensures.remainder c.remainder-rest.ensures.zeros in
    let same : Decides c.eq.result (rest ≡ replicate 32 0) = slice_eq-Decides Decides-eqb rest (replicate 32 0) c.eq.result c.eq.ensures in
    near_if_member c.args.self.now c.args.word.now (member.1 (same.0 c.if-eq.true))

pub returns-then-eq-clause-count : goal.returns-then-eq-clause-count
returns-then-eq-clause-count c = sym (differences-same c.args.word.now)

pub returns-then-eq-clause-becomes : goal.returns-then-eq-clause-becomes
returns-then-eq-clause-becomes c = λ near near_in.
    near_is_single c.args.self.now c.args.word.now c.args.word.now near (returns-then-eq-clause-near c) near_in

use Rattle.std.proofs.Common.{◌≡◌, ◌+◌, ◌*◌, ◌/◌, ◌<◌, ◌≤◌, ℕ, List, [], sym, subst, arith, get_or, length}
use Rattle.std.specs.Prelude.{◌↔◌}
use Rattle.rs_code.specs.Word.{IsReedSolomonWord}
use Rattle.rs_code.specs.Interleave.{interleave}
use Rattle.rs_code.specs.inside.Register.{IsRest}
use Rattle.rs_code.proofs.Interleaves.{interleaved_member}
use Rattle.rs_code.proofs.coder.Coder.are_code_words.Goals as goal

-- one of the words, by its check symbols
member : (c : goal.After-columns_agree) (v : ℕ) → v < c.args.many
    → IsReedSolomonWord c.args.self.now (interleave c.args.many v c.args.words.now)
    ↔ ((k : ℕ) → k < length c.split_at.result.1.now / c.args.many
    → get_or c.split_at.result.1.now (k * c.args.many + v) 0 ≡ get_or (get_or c.interleaved_checks.result v []) k 0)
member c v inside =
    let words : List ℕ = c.args.words.now in
    let many : ℕ = c.args.many in
    let rest : List ℕ = get_or c.interleaved_checks.result v [] in
    subst (λ t. IsReedSolomonWord t (interleave many v words)
    ↔ ((k : ℕ) → k < length c.split_at.result.1.now / many → get_or c.split_at.result.1.now (k * many + v) 0 ≡ get_or rest k 0)) c.self.view_is
    (interleaved_member c.self.inside.t many v words c.split_at.result.0.now c.split_at.result.1.now rest c.self.invariant.0.most inside c.requires.whole
    (subst (λ t. 2 * t * many ≤ length words) (sym c.self.view_is) c.requires.long) c.requires.short
    (λ i. omega (arith, c.type_inv.words i)) c.split_at.ensures.front c.split_at.ensures.back
    (subst (λ t. IsRest t (interleave many v c.split_at.result.0.now) rest) (sym c.self.view_is) (c.interleaved_checks.ensures.rests v inside)))

pub returns : goal.returns
returns c = (
  (λ agree v inside. (member c v inside).1 (λ k h. c.columns_agree.ensures.0 agree k v inside h)),
  (λ members. c.columns_agree.ensures.1 (λ k v inside h. (member c v inside).0 (members v inside) k h)),
)

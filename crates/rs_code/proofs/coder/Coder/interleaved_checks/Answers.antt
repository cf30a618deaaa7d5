use Rattle.std.proofs.Common.{ℕ, List, [], sym, subst, get_or, arith, replicate}
use Rattle.rs_code.specs.Interleave.{interleave}
use Rattle.rs_code.specs.inside.Register.{IsRest, register}
use Rattle.rs_code.proofs.Roots.{at_zeros}
use Rattle.rs_code.proofs.Steps.{zeros_replicate}
use Rattle.rs_code.proofs.coder.Coder.interleaved_checks.Goals as goal

pub returns-then-self-le8-clause-rests : goal.returns-then-self-le8-clause-rests
returns-then-self-le8-clause-rests c = λ v inside.
    let symbols : List ℕ = interleave c.args.many v c.args.symbols.now in
    subst (λ t. IsRest t symbols (get_or c.all_symbols.result v [])) c.self.view_is
    (subst (IsRest c.self.inside.t symbols) (sym (c.all_symbols.ensures v (omega (arith, inside, c.requires.few))))
    (subst (λ b. IsRest c.self.inside.t symbols (register (get_or c.narrow_rests-high.result v 0) b)) (sym (at_zeros (replicate 16 0) v (zeros_replicate 16))) (c.narrow_rests-high.ensures c.self.inside.t c.self.inside.low c.if-self-le8.true c.self.invariant.0 v inside)))

pub returns-else-self-le8-clause-rests : goal.returns-else-self-le8-clause-rests
returns-else-self-le8-clause-rests c = λ v inside.
    let symbols : List ℕ = interleave c.args.many v c.args.symbols.now in
    subst (λ t. IsRest t symbols (get_or c.all_symbols-else-self-le8.result v [])) c.self.view_is
    (subst (IsRest c.self.inside.t symbols) (sym (c.all_symbols-else-self-le8.ensures v (omega (arith, inside, c.requires.few))))
    (c.wide_rests.ensures c.self.inside.t c.self.invariant.0 v inside))

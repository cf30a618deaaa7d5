use Rattle.std.proofs.Common.{sym, subst}
use Rattle.rs_code.specs.inside.Register.{IsRest}
use Rattle.rs_code.proofs.coder.Coder.check_symbols.Goals as goal

pub returns-then-self-le8-clause-rest : goal.returns-then-self-le8-clause-rest
returns-then-self-le8-clause-rest c =
    subst (λ t. IsRest t c.args.symbols.now c.symbols_of.result) c.self.view_is
    (subst (IsRest c.self.inside.t c.args.symbols.now) (sym c.symbols_of.ensures)
    (c.narrow_rest-high.ensures c.self.inside.t c.self.inside.low c.self.inside.far_low c.if-self-le8.true c.self.invariant.0 c.self.invariant.1))

pub returns-else-self-le8-clause-rest : goal.returns-else-self-le8-clause-rest
returns-else-self-le8-clause-rest c =
    subst (IsRest c.args.self.now c.args.symbols.now) (sym c.symbols_of-else-self-le8.ensures) c.wide_rest-high.ensures

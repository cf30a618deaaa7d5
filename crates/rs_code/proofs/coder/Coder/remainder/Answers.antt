use Rattle.std.proofs.Common.{◌*◌, ◌++◌, ℕ, List, sym, arith, subst, take, drop}
use Rattle.std.proofs.lemmas.List.Elements.{All-from_get_or}
use Rattle.gf256.specs.Field.{IsElement}
use Rattle.rs_code.specs.Polynomial.{IsBelowDegree}
use Rattle.rs_code.specs.Remainder.{IsRemainder}
use Rattle.rs_code.specs.inside.Register.{IsRest}
use Rattle.rs_code.proofs.Remainders.{remainder_kept}
use Rattle.rs_code.proofs.coder.Coder.remainder.Goals as goal

-- what the register holds at the end
abbrev rest_of : goal.After-rest-2-1 → List ℕ
rest_of c = c.add_symbols.new.word ++ drop (2 * c.self.inside.t) c.check_symbols-rest.result

kept : (c : goal.After-rest-2-1)
    → IsRemainder c.self.inside.t c.args.word.now (take (2 * c.self.inside.t) (rest_of c)) × IsBelowDegree (2 * c.self.inside.t) (rest_of c)
kept c =
    remainder_kept c.self.inside.t c.args.word.now c.split_at.result.0.now c.split_at.result.1.now c.check_symbols-rest.result c.add_symbols.new.word
    c.self.invariant.0.most (omega (arith, c.requires, c.self.view_is))
    (All-from_get_or IsElement c.args.word.now 0 (λ i h. omega (arith, c.type_inv.word i)))
    c.split_at.ensures.front c.split_at.ensures.back
    (subst (λ t. IsRest t c.split_at.result.0.now c.check_symbols-rest.result) (sym c.self.view_is) c.check_symbols-rest.ensures.rest)
    c.add_symbols.ensures

pub returns-clause-remainder : goal.returns-clause-remainder
returns-clause-remainder c =
    subst (λ t. IsRemainder t c.args.word.now (take (2 * t) (rest_of c))) c.self.view_is (kept c).0

pub returns-clause-zeros : goal.returns-clause-zeros
returns-clause-zeros c = subst (λ t. IsBelowDegree (2 * t) (rest_of c)) c.self.view_is (kept c).1

use Rattle.std.proofs.Common.{◌≡◌, ◌-◌, length, take, map}
use Rattle.code_tables.proofs.forbidden.symbols.Given as goal

-- the first places hold the symbols of the first digits
abbrev pub invariant-loop-at : goal.invariant-loop-at
invariant-loop-at l = (length l.symbols ≡ 32) × (take l.at l.symbols ≡ map (λ byte. byte - 48) (take l.at l.digits))

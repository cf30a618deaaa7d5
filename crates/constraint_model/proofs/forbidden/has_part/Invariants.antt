use Rattle.std.proofs.Common.{◌≡◌, ℕ, ◌<◌, List, ◌++◌, drop}
use Rattle.constraint_model.proofs.forbidden.has_part.Given as goal

abbrev pub invariant-loop-at : goal.invariant-loop-at
invariant-loop-at l = (place : ℕ) → place < l.at → (rest : List ℕ) → drop place l.word ≡ l.part ++ rest → ⊥

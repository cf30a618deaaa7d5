-- Bounds of what rounds make: few splits, light states, and more states by each round.
use Rattle.std.proofs.Common.{ℕ, ◌+◌, ◌<◌, ◌≤◌, List, [], ◌∷◌, length, arith}
use Rattle.std.specs.Prelude.{All}
use Rattle.std.proofs.lemmas.List.Elements.{All-head, All-tail}
use Rattle.symbol_base.specs.Ascending.{IsAscending}
use Rattle.split_spec.specs.Round.{SplitData}
use Rattle.state_split.specs.inside.Parts.{AreSplitsOf}

few_from : (m : ℕ) (split : SplitData) (splits : List SplitData) → IsAscending (λ (a b : SplitData). a.state < b.state) (split ∷ splits)
    → All (λ (s : SplitData). s.state < m) (split ∷ splits) → split.state + length (split ∷ splits) ≤ m
few_from m split [] order inside = (let low = All-head (λ (s : SplitData). s.state < m) split [] inside in omega (arith, low))
few_from m split (next ∷ splits) order inside =
    let rest = few_from m next splits order.1 (All-tail (λ (s : SplitData). s.state < m) split (next ∷ splits) inside) in
    let less = order.0 in
    omega (arith, rest, less)

-- there are no more splits than states
pub few_splits : (m : ℕ) (splits : List SplitData) → AreSplitsOf m splits → length splits ≤ m
few_splits m [] known = omega arith
few_splits m (split ∷ splits) known = (let few = few_from m split splits known.order known.inside in omega (arith, few))

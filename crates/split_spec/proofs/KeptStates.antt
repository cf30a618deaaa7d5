-- The states that are kept at the end of a chain: there is one, they are few, and they lead to each other.
use Rattle.std.proofs.Common.{◌≡◌, ℕ, zero, suc, ◌<◌, ◌≤◌, List, [], ◌∷◌, length, get_or, inl, inr, sym, subst, arith}
use Rattle.std.specs.Prelude.{All, Contains}
use Rattle.std.specs.List.{sum}
use Rattle.std.proofs.lemmas.Bool.{cases_lt}
use Rattle.std.proofs.lemmas.List.Elements.{All-cons, All-nil, Contains-get_or}
use Rattle.symbol_base.specs.Ascending.{IsAscending}
use Rattle.symbol_base.specs.Walk.{IsWalk}
use Rattle.label_graphs.specs.Graph.{EdgeData, HasEdge}
use Rattle.split_spec.specs.Weighted.{IsIrreducible, IsWeighted, WeightedData}
use Rattle.split_spec.specs.Round.{SplitData}
use Rattle.split_spec.specs.Chain.{ChainData, IsChain, IsHeaviest, RoundsLead}
use Rattle.split_spec.proofs.ChainLast.{last_part}
use Rattle.split_spec.proofs.Given.{KeepsWeightsLaw, KeepsWaysLaw}
use Rattle.split_spec.proofs.Listed.{listed_at}
use Rattle.split_spec.proofs.OrderTold.{later_behind, number_strict, one_place}
use Rattle.split_spec.proofs.PartGraph.{IsPart}
use Rattle.split_spec.proofs.RoundParts.{parents_size}

-- ---- one state at least

-- a greatest weight, and no weight above it
record Greatest (weights : List ℕ) : Type 0 where
  place : ℕ
  inside : place < length weights
  most : All (λ weight. weight ≤ get_or weights place 0) weights

below : (m : ℕ) (n : ℕ) (weights : List ℕ) → n ≤ m → All (λ weight. weight ≤ n) weights → All (λ weight. weight ≤ m) weights
below m n weights low all k d inside = let here = all k d inside in omega (arith, here, low)

greatest : (weight : ℕ) (weights : List ℕ) → Greatest (weight ∷ weights)
greatest weight [] = record { place = 0; inside = omega arith; most = All-cons (λ w. w ≤ weight) weight [] (omega arith) (All-nil (λ w. w ≤ weight)) }
greatest weight (next ∷ weights) =
    let rest = greatest next weights in
    let top = get_or (next ∷ weights) rest.place 0 in
    elim (cases_lt top weight) [
      | inl less ↦ record {
        place = 0;
        inside = omega arith;
        most = All-cons (λ w. w ≤ weight) weight (next ∷ weights) (omega arith) (below weight top (next ∷ weights) (omega (arith, less)) rest.most);
      }
      | inr same ↦ record {
        place = suc rest.place;
        inside = (let here = rest.inside in omega (arith, here));
        most = All-cons (λ w. w ≤ top) weight (next ∷ weights) same rest.most;
      }
    ]

a_heaviest : (weights : List ℕ) → 0 < length weights → (state : ℕ) × IsHeaviest weights state
a_heaviest [] some = absurd (omega (arith, some))
a_heaviest (weight ∷ weights) some =
    let top = greatest weight weights in
    (top.place, record { inside = top.inside; most = top.most })

-- rounds take no state away
rounds_grow : (n : ℕ) (g h : WeightedData) (rounds : List (List SplitData)) (parents : List ℕ) → RoundsLead n g rounds h parents → length g.rows ≤ length h.rows
rounds_grow n g h [] parents lead = subst (λ (k : WeightedData). length g.rows ≤ length k.rows) (sym lead.0) (omega arith)
rounds_grow n g h (splits ∷ rounds) parents lead =
    let rest = rounds_grow n lead.0 h rounds lead.2 lead.5 in
    let made = lead.4.rows_size in
    let count = parents_size (length g.rows) splits lead.1 lead.4.parents_are in
    omega (arith, rest, made, count)

pub some_kept : (n : ℕ) (g : WeightedData) (chain : ChainData) (is : IsChain n g chain) → IsWeighted n is.end → 0 < length g.rows → 0 < length chain.last
some_kept n g chain is weighted some =
    let more = rounds_grow n g is.end chain.rounds is.end_parents is.rounds in
    let sizes = weighted.weights.size in
    let top = a_heaviest is.end.weights (omega (arith, more, sizes, some)) in
    let found = ((is.heaviest top.0).1 top.1).1 in
    let size = is.size in
    omega (arith, found, size)

-- ---- no more states than the weights add up to

-- of numbers in ascending order each is no less than its place
no_less : (numbers : List ℕ) → IsAscending (λ s t. s < t) numbers → (place : ℕ) → place < length numbers → place ≤ get_or numbers place 0
no_less numbers order zero inside = omega arith
no_less numbers order (suc place) inside =
    let before = no_less numbers order place (omega (arith, inside)) in
    let more = later_behind (λ s t. s < t) numbers place (suc place) 0 number_strict order (omega arith) inside in
    omega (arith, before, more)

few_below : (numbers : List ℕ) (bound : ℕ) → IsAscending (λ s t. s < t) numbers → ((number : ℕ) → Contains numbers number → number < bound) → length numbers ≤ bound
few_below [] bound order low = omega arith
few_below (number ∷ numbers) bound order low =
    let last = no_less (number ∷ numbers) order (length numbers) (omega arith) in
    let under = low (get_or (number ∷ numbers) (length numbers) 0) (Contains-get_or (number ∷ numbers) (length numbers) 0 (omega arith)) in
    omega (arith, last, under)

pub few_kept : (n : ℕ) (g : WeightedData) (chain : ChainData) (is : IsChain n g chain) → (length is.end.weights ≡ length is.end.rows) → (length is.end.rows ≤ sum is.end.weights)
    → (sum is.end.weights ≡ sum g.weights) → length chain.last ≤ sum g.weights
few_kept n g chain is sizes small same =
    let size = is.size in
    let few = few_below chain.kept (length is.end.weights) is.order (λ state found. ((is.heaviest state).0 found).inside) in
    omega (arith, size, few, sizes, small, same)

-- ---- they lead to each other

-- rounds keep that each state leads to each
pub keep_ways : KeepsWeightsLaw → KeepsWaysLaw → (n : ℕ) (g h : WeightedData) (rounds : List (List SplitData)) (parents : List ℕ) → 1 ≤ n → IsWeighted n g → IsIrreducible g.rows
    → RoundsLead n g rounds h parents → IsIrreducible h.rows
keep_ways weights ways n g h [] parents some weighted joined lead = subst (λ (k : WeightedData). IsIrreducible k.rows) (sym lead.0) joined
keep_ways weights ways n g h (splits ∷ rounds) parents some weighted joined lead =
    keep_ways weights ways n lead.0 h rounds lead.2 some (weights n g lead.0 splits lead.1 some weighted lead.4).0
    (ways n g lead.0 splits lead.1 some weighted joined lead.4) lead.5

-- a walk between kept states is one of the last graph, where no edge of a kept state leads to another one
walk_kept : (rows last : List (List EdgeData)) (kept blocks : List ℕ) (from to : ℕ) → IsPart rows kept last
    → ((state block next : ℕ) → Contains kept state → HasEdge rows state block next → Contains kept next)
    → from < length kept → to < length kept → IsWalk (HasEdge rows) (get_or kept from 0) blocks (get_or kept to 0) → IsWalk (HasEdge last) from blocks to
walk_kept rows last kept [] from to part closed from_in to_in walk = one_place (λ s t. s < t) kept from to 0 number_strict part.order from_in to_in walk
walk_kept rows last kept (block ∷ blocks) from to part closed from_in to_in walk =
    let next = listed_at kept walk.0 0 (closed (get_or kept from 0) block walk.0 (Contains-get_or kept from 0 from_in) walk.1) in
    let edge : HasEdge rows (get_or kept from 0) block (get_or kept next.0 0) =
    subst (λ s. HasEdge rows (get_or kept from 0) block s) (sym next.2) walk.1 in
    let rest : IsWalk (HasEdge rows) (get_or kept next.0 0) blocks (get_or kept to 0) =
    subst (λ s. IsWalk (HasEdge rows) s blocks (get_or kept to 0)) (sym next.2) walk.2 in (
      next.0,
      (part.edges from block next.0 from_in next.1).1 edge,
      walk_kept rows last kept blocks next.0 to part closed next.1 to_in rest,
    )

pub kept_joined : (n : ℕ) (g : WeightedData) (chain : ChainData) (is : IsChain n g chain) → IsWeighted n is.end → IsIrreducible is.end.rows
    → ((state block to : ℕ) → Contains chain.kept state → HasEdge is.end.rows state block to → Contains chain.kept to) → IsIrreducible chain.last
kept_joined n g chain is weighted joined closed from to from_in to_in =
    let size = is.size in
    let sizes = weighted.weights.size in
    let here : from < length chain.kept = omega (arith, from_in, size) in
    let there : to < length chain.kept = omega (arith, to_in, size) in
    let below = λ (place : ℕ) (inside : place < length chain.kept). ((is.heaviest (get_or chain.kept place 0)).0 (Contains-get_or chain.kept place 0 inside)).inside in
    let one = below from here in
    let other = below to there in
    let led = joined (get_or chain.kept from 0) (get_or chain.kept to 0) (omega (arith, one, sizes)) (omega (arith, other, sizes)) in
    (led.0, walk_kept is.end.rows chain.last chain.kept led.0 from to (last_part n g chain is) closed here there led.1)

-- A graph has one chain: each round has one outcome, and the end tells what is kept.
use Rattle.std.proofs.Common.{◌≡◌, ℕ, List, [], ◌∷◌, refl, ap, sym, ◌∙◌, subst}
use Rattle.std.specs.Prelude.{Contains}
use Rattle.symbol_base.proofs.AscendingNumbers.{ascending_same}
use Rattle.label_graphs.specs.Graph.{EdgeData, HasEdge}
use Rattle.label_graphs.specs.Refinement.{parents_of}
use Rattle.label_graphs.proofs.EdgeOrder.{same_graphs}
use Rattle.split_spec.specs.Weighted.{WeightedData}
use Rattle.split_spec.specs.Round.{SplitData}
use Rattle.split_spec.specs.Chain.{ChainData, IsChain, IsHeaviest, NeedsRound, RoundsLead}
use Rattle.split_spec.proofs.ChainLast.{last_part}
use Rattle.split_spec.proofs.Given.{OneRoundLaw}
use Rattle.split_spec.proofs.PartGraph.{IsPart, ends_listed, part_keeps}

-- rounds that lead from one graph to where none is needed are the same rounds, and lead to one graph
one_end : OneRoundLaw → (n : ℕ) (g h k : WeightedData) (rounds others : List (List SplitData)) (parents fathers : List ℕ)
    → RoundsLead n g rounds h parents → RoundsLead n g others k fathers → (NeedsRound h → ⊥) → (NeedsRound k → ⊥)
    → (rounds ≡ others) × (h ≡ k) × (parents ≡ fathers)
one_end law n g h k [] [] parents fathers one other done finished = (refl, one.0 ∙ sym other.0, one.1 ∙ sym other.1)
one_end law n g h k [] (taken ∷ others) parents fathers one other done finished =
    absurd (done (subst (λ (x : WeightedData). NeedsRound x) (sym one.0) other.3))
one_end law n g h k (splits ∷ rounds) [] parents fathers one other done finished =
    absurd (finished (subst (λ (x : WeightedData). NeedsRound x) (sym other.0) one.3))
one_end law n g h k (splits ∷ rounds) (taken ∷ others) parents fathers one other done finished =
    let same = law n g one.0 other.0 splits taken one.1 other.1 one.4 other.4 in
    let rest = one_end law n one.0 h k rounds others one.2 other.2 one.5
    (subst (λ (x : WeightedData). RoundsLead n x others k other.2) (sym same.1) other.5) done finished in (
      ap (λ (x : List SplitData). x ∷ rounds) same.0 ∙ ap (λ (xs : List (List SplitData)). taken ∷ xs) rest.0,
      rest.1,
      one.6 ∙ ap (λ (xs : List ℕ). parents_of xs one.2) same.2 ∙ ap (λ (xs : List ℕ). parents_of other.1 xs) rest.2 ∙ sym other.6,
    )

-- what is kept of one end is kept of the same end
kept_too : (n : ℕ) (g : WeightedData) (chain other : ChainData) (one : IsChain n g chain) (two : IsChain n g other) → one.end ≡ two.end
    → (state : ℕ) → Contains chain.kept state → Contains other.kept state
kept_too n g chain other one two same state found =
    (two.heaviest state).1 (subst (λ (h : WeightedData). IsHeaviest h.weights state) same ((one.heaviest state).0 found))

-- two graphs of the edges among the same states have the same edges
edge_too : (rows last others : List (List EdgeData)) (kept : List ℕ) → IsPart rows kept last → IsPart rows kept others
    → (from block to : ℕ) → HasEdge last from block to → HasEdge others from block to
edge_too rows last others kept one other from block to edge =
    let ends = ends_listed rows last kept one from block to edge in
    (other.edges from block to ends.0 ends.1).1 (part_keeps rows last kept one from block to edge)

-- so the last graphs of two chains are one
one_last : (n : ℕ) (g : WeightedData) (chain other : ChainData) (one : IsChain n g chain) (two : IsChain n g other) → one.end ≡ two.end
    → chain.kept ≡ other.kept → chain.last ≡ other.last
one_last n g chain other one two same kept =
    let here : IsPart one.end.rows chain.kept chain.last = last_part n g chain one in
    let there : IsPart one.end.rows chain.kept other.last =
    subst (λ (h : WeightedData). IsPart h.rows chain.kept other.last) (sym same)
    (subst (λ (xs : List ℕ). IsPart two.end.rows xs other.last) (sym kept) (last_part n g other two)) in
    same_graphs chain.last other.last one.graph two.graph (here.size ∙ sym there.size)
    (edge_too one.end.rows chain.last other.last chain.kept here there) (edge_too one.end.rows other.last chain.last chain.kept there here)

-- a chain is told by its parts
same_parts : (chain other : ChainData) → chain.sink ≡ other.sink → chain.rounds ≡ other.rounds → chain.kept ≡ other.kept → chain.last ≡ other.last
    → chain.parents ≡ other.parents → chain ≡ other
same_parts chain other sink rounds kept last parents =
    λ i. record { sink = sink i; rounds = rounds i; kept = kept i; last = last i; parents = parents i }

-- and the chains are one
pub one_chain : OneRoundLaw → (n : ℕ) (g : WeightedData) (chain other : ChainData) → IsChain n g chain → IsChain n g other → chain ≡ other
one_chain law n g chain other one two =
    let ends = one_end law n g one.end two.end chain.rounds other.rounds one.end_parents two.end_parents one.rounds two.rounds one.done two.done in
    let kept = ascending_same chain.kept other.kept one.order two.order
    (kept_too n g chain other one two ends.1) (kept_too n g other chain two one (sym ends.1)) in
    same_parts chain other (one.of ∙ sym two.of) ends.0 kept (one_last n g chain other one two ends.1 kept)
    (one.parents ∙ ap (λ (xs : List ℕ). parents_of xs chain.kept) ends.2 ∙ ap (λ (xs : List ℕ). parents_of two.end_parents xs) kept ∙ sym two.parents)

-- Rounds that lead to a graph, and one more round of that graph.
use Rattle.std.proofs.Common.{◌≡◌, ℕ, ◌<◌, List, [], ◌∷◌, ◌++◌, length, get_or, refl, ap, sym, ◌∙◌, subst, arith}
use Rattle.std.specs.Prelude.{All}
use Rattle.std.specs.List.{range_with_len}
use Rattle.std.proofs.lemmas.List.{get_or-map, length-map, map-append}
use Rattle.std.proofs.lemmas.List.Elements.{All-head, All-tail}
use Rattle.std.proofs.lemmas.List.FromFn.{fill_by_all, get_or-range_with_len, length-range_with_len}
use Rattle.label_graphs.specs.Refinement.{parents_of}
use Rattle.split_spec.specs.Weighted.{WeightedData}
use Rattle.split_spec.specs.Round.{SplitData, IsRound}
use Rattle.split_spec.specs.Chain.{NeedsRound, RoundsLead}
use Rattle.state_split.specs.Views.{RoundData, rounds_data}
use Rattle.state_split.proofs.StageRound.{parents_inside}

-- rounds give each state of the graph to which they lead a parent
lead_size : (n : ℕ) (g h : WeightedData) (rounds : List (List SplitData)) (parents : List ℕ) → RoundsLead n g rounds h parents → length parents ≡ length h.rows
lead_size n g h [] parents lead =
    ap (λ (ps : List ℕ). length ps) lead.1 ∙ length-range_with_len 0 (length g.rows) ∙ sym (ap (λ (k : WeightedData). length k.rows) lead.0)
lead_size n g h (splits ∷ rounds) parents lead =
    ap (λ (ps : List ℕ). length ps) lead.6 ∙ length-map lead.2 (λ state. get_or lead.1 state 0) ∙ lead_size n lead.0 h rounds lead.2 lead.5

-- the parents of states that are their own parents
parents_of_own : (m : ℕ) (first : List ℕ) → All (λ state. state < m) first → parents_of (range_with_len 0 m) first ≡ first
parents_of_own m [] inside = refl
parents_of_own m (state ∷ first) inside =
    let low = All-head (λ s. s < m) state first inside in
    let own : get_or (range_with_len 0 m) state 0 ≡ state = get_or-range_with_len 0 m state 0 low ∙ omega arith in
    let rest = parents_of_own m first (All-tail (λ s. s < m) state first inside) in
    ap (λ (s : ℕ). s ∷ parents_of (range_with_len 0 m) first) own ∙ ap (λ (ss : List ℕ). state ∷ ss) rest

-- and the own parents of states that have parents
own_parents_of : (m : ℕ) (first : List ℕ) → length first ≡ m → first ≡ parents_of first (range_with_len 0 m)
own_parents_of m first size = fill_by_all (λ state. get_or first state 0) first m 0 size (λ k low. refl)

-- parents of parents, from either end
parents_twice : (first middle last : List ℕ) → All (λ state. state < length middle) last
    → parents_of (parents_of first middle) last ≡ parents_of first (parents_of middle last)
parents_twice first middle [] inside = refl
parents_twice first middle (state ∷ last) inside =
    let low = All-head (λ s. s < length middle) state last inside in
    let here = get_or-map (λ s. get_or first s 0) middle state 0 0 low in
    let rest = parents_twice first middle last (All-tail (λ s. s < length middle) state last inside) in
    ap (λ (s : ℕ). s ∷ parents_of (parents_of first middle) last) here ∙ ap (λ (ss : List ℕ). get_or first (get_or middle state 0) 0 ∷ ss) rest

-- one round leads on from the first graph
one_leads : (n : ℕ) (g h : WeightedData) (splits : List SplitData) (first : List ℕ) → NeedsRound g → IsRound n g splits h first
    → RoundsLead n g (splits ∷ []) h (parents_of (range_with_len 0 (length g.rows)) first)
one_leads n g h splits first need round = (
  h,
  first,
  range_with_len 0 (length h.rows),
  need,
  round,
  (refl, refl),
  parents_of_own (length g.rows) first (parents_inside n g splits h first round) ∙ own_parents_of (length h.rows) first (sym round.rows_size),
)

-- and from that to which others lead
rounds_lead_on : (n : ℕ) (g h k : WeightedData) (rounds : List (List SplitData)) (splits : List SplitData) (parents last : List ℕ)
    → RoundsLead n g rounds h parents → NeedsRound h → IsRound n h splits k last → RoundsLead n g (rounds ++ splits ∷ []) k (parents_of parents last)
rounds_lead_on n g h k [] splits parents last lead need round =
    let here : IsRound n g splits k last = subst (λ (f : WeightedData). IsRound n f splits k last) lead.0 round in
    subst (λ (ps : List ℕ). RoundsLead n g (splits ∷ []) k (parents_of ps last)) (sym lead.1)
    (one_leads n g k splits last (subst NeedsRound lead.0 need) here)
rounds_lead_on n g h k (before ∷ rounds) splits parents last lead need round =
    let size = lead_size n lead.0 h rounds lead.2 lead.5 in
    let inside : All (λ state. state < length lead.2) last =
    subst (λ m. All (λ state. state < m) last) (sym size) (parents_inside n h splits k last round) in (
      lead.0,
      lead.1,
      parents_of lead.2 last,
      lead.3,
      lead.4,
      rounds_lead_on n lead.0 h k rounds splits lead.2 last lead.5 need round,
      ap (λ (ps : List ℕ). parents_of ps last) lead.6 ∙ parents_twice lead.1 lead.2 last inside,
    )

-- the splits of rounds with one more
pub one_more : (rounds more : List RoundData) (round : RoundData) → more ≡ rounds ++ round ∷ [] → rounds_data more ≡ rounds_data rounds ++ round.splits ∷ []
one_more rounds more round are = ap rounds_data are ∙ map-append (λ (r : RoundData). r.splits) rounds (round ∷ [])

-- the same of lists that are what one more round makes
pub one_more_round : (n : ℕ) (g h k : WeightedData) (rounds more : List (List SplitData)) (splits : List SplitData) (parents : List ℕ) → RoundsLead n g rounds h parents
    → NeedsRound h → more ≡ rounds ++ splits ∷ [] → (all : List ℕ) → ((last : List ℕ) × IsRound n h splits k last × (all ≡ parents_of parents last))
    → RoundsLead n g more k all
one_more_round n g h k rounds more splits parents lead need joined all made =
    subst (λ (rs : List (List SplitData)). RoundsLead n g rs k all) (sym joined)
    (subst (λ (ps : List ℕ). RoundsLead n g (rounds ++ splits ∷ []) k ps) (sym made.2)
    (rounds_lead_on n g h k rounds splits parents made.0 lead need made.1))

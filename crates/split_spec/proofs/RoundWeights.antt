-- The weights that a round gives.
use Rattle.std.proofs.Common.{◌≡◌, ℕ, ◌+◌, ◌*◌, ◌<◌, ◌≤◌, inl, inr, List, [], length, get_or, ap, sym, ◌∙◌, arith}
use Rattle.std.specs.Prelude.{Contains}
use Rattle.std.specs.List.{sum}
use Rattle.std.proofs.Math.Nat.{mul-le-mul_left}
use Rattle.std.proofs.lemmas.Bool.{cases_lt}
use Rattle.std.proofs.lemmas.List.{nil_from_length}
use Rattle.std.proofs.lemmas.List.Elements.{All-from_get_or}
use Rattle.label_graphs.specs.Sink.{spread}
use Rattle.label_graphs.specs.Vector.{target_sum}
use Rattle.split_spec.specs.Weighted.{IsIrreducible, IsWeighted, WeightedData}
use Rattle.split_spec.specs.Run.{weight_of}
use Rattle.split_spec.specs.Round.{SplitData, IsRound}
use Rattle.split_spec.proofs.EdgeEnds.{target_inside}
use Rattle.split_spec.proofs.RoundParts.{split_listed, parents_size, part_by}
use Rattle.split_spec.proofs.RoundEdges.{split_inside, split_halves}
use Rattle.split_spec.proofs.RoundSums.{sum_over_parts, sum_over_states}
use Rattle.split_spec.proofs.RoundTargets.{whole_sum, run_sum, parts_sum}
use Rattle.split_spec.proofs.RoundWalks.{parts_joined}
use Rattle.split_spec.proofs.SumsCounted.{counted_edges}

module _ (n : ℕ) (g h : WeightedData) (splits : List SplitData) (parents : List ℕ) (weighted : IsWeighted n g) (round : IsRound n g splits h parents) where
  -- a state of the old graph weighs something
  state_weight : (state : ℕ) → state < length g.rows → 0 < get_or g.weights state 0
  state_weight state inside = let size = weighted.weights.size in weighted.weights.positive state 0 (omega (arith, size, inside))

  -- the part with the run weighs something
  run_weight : (split : SplitData) → Contains splits split → 0 < split.y
  run_weight split listed =
      let known = (round.exact split).0 listed in
      let parted = split_halves n g h splits parents weighted round split listed in
      let count = counted_edges g.weights split.run
      (λ e edge. state_weight e.to (target_inside g.rows split.state e.block e.to weighted.weights.graph (parted.of_run e edge))) in
      let some = known.run.some in
      let all = known.run.weight in
      elim (cases_lt 0 split.y) [
        | inl more ↦ more
        | inr none ↦ absurd (let nothing : split.y ≡ 0 = omega (arith, none) in omega (arith, some, count, all, ap (λ y. n * y) nothing))
      ]

  -- so each part does
  part_weight : (part : ℕ) → part < length parents → 0 < get_or h.weights part 0
  part_weight = part_by (length g.rows) splits parents round.parents_are (λ part. 0 < get_or h.weights part 0)
      (λ state inside unsplit. let kept = round.whole state inside unsplit in let old = state_weight state inside in omega (arith, kept, old))
      (λ place split at.
      let listed = split_listed splits place split at in
      let kept = round.run split listed in
      let some = run_weight split listed in
      omega (arith, kept, some))
      (λ place split at.
      let kept = round.rest place split at in
      let less = ((round.exact split).0 (split_listed splits place split at)).lighter in
      omega (arith, kept, less))

  -- each part meets the inequality
  part_meets : (part : ℕ) → part < length parents → n * get_or h.weights part 0 ≤ target_sum h.rows h.weights part
  part_meets = part_by (length g.rows) splits parents round.parents_are (λ part. n * get_or h.weights part 0 ≤ target_sum h.rows h.weights part)
      (λ state inside unsplit.
      let size = weighted.weights.size in
      let old = weighted.inequality state (omega (arith, size, inside)) in
      let sums = whole_sum n g h splits parents weighted round state inside unsplit in
      let kept = ap (λ w. n * w) (round.whole state inside unsplit) in
      omega (arith, old, sums, kept))
      (λ place split at.
      let listed = split_listed splits place split at in
      let sums = run_sum n g h splits parents weighted round split listed in
      let kept = ap (λ w. n * w) (round.run split listed) in
      let all = ((round.exact split).0 listed).run.weight in
      omega (arith, sums, kept, all))
      (λ place split at.
      let listed = split_listed splits place split at in
      let known = (round.exact split).0 listed in
      let size = weighted.weights.size in
      let inside = known.inside in
      let old = weighted.inequality split.state (omega (arith, size, inside)) in
      let run = run_sum n g h splits parents weighted round split listed in
      let all = known.run.weight in
      let sums = parts_sum n g h splits parents weighted round place split at in
      let kept = ap (λ w. n * w) (round.rest place split at) in
      omega (arith, old, run, all, sums, kept))

  -- so an edge leaves it
  part_leaves : 1 ≤ n → (part : ℕ) → part < length parents → 0 < length (get_or h.rows part [])
  part_leaves least part inside = elim (cases_lt 0 (length (get_or h.rows part []))) [
    | inl some ↦ some
    | inr none ↦ (
        let empty : get_or h.rows part [] ≡ [] = nil_from_length (get_or h.rows part []) (omega (arith, none)) in
        let nothing : target_sum h.rows h.weights part ≡ 0 = ap (weight_of h.weights) empty in
        let meets = part_meets part inside in
        let some = part_weight part inside in
        let more : n * 1 ≤ n * get_or h.weights part 0 = mul-le-mul_left n some in
        absurd (omega (arith, least, nothing, meets, more)))
  ]

  -- the new graph is one of which a code can be split
  pub round_weighted : 1 ≤ n → IsWeighted n h
  round_weighted least =
      let size = round.weights_size in
      let rows = round.rows_size in
      record {
        weights = record {
          graph = round.graph;
          size = size ∙ sym rows;
          positive = All-from_get_or (λ weight. 0 < weight) h.weights 0 (λ part inside. part_weight part (omega (arith, inside, size)));
        };
        inequality = λ part inside. part_meets part (omega (arith, inside, size));
      }

  -- each of its states leads to each, where the old ones do
  pub round_irreducible : 1 ≤ n → IsIrreducible g.rows → IsIrreducible h.rows
  round_irreducible least joined from to from_in to_in =
      let rows = round.rows_size in
      parts_joined n g h splits parents weighted round joined from to from_in to_in (part_leaves least from (omega (arith, from_in, rows)))

  -- its weights have the same sum
  pub round_sum : sum h.weights ≡ sum g.weights
  round_sum =
      let same = weighted.weights.size in
      let size = parents_size (length g.rows) splits parents round.parents_are in
      let all = round.weights_size in
      sum_over_parts splits g.weights h.weights round.order (omega (arith, same, size, all))
      (λ split listed. let low = split_inside n g h splits parents weighted round split listed in omega (arith, low, same))
      (λ state inside unsplit. round.whole state (omega (arith, inside, same)) unsplit)
      (λ place split at.
      let run = round.run split (split_listed splits place split at) in
      let rest = round.rest place split at in
      let there = ap (λ m. get_or h.weights (m + place) 0) same in
      omega (arith, run, rest, there))

  -- and so have those that its edges lead to
  pub round_spread : spread h.rows h.weights ≡ spread g.rows g.weights
  round_spread =
      let size = parents_size (length g.rows) splits parents round.parents_are in
      let rows = round.rows_size in
      sum_over_states splits (length g.rows) (length h.rows) (λ state. target_sum h.rows h.weights state) (λ state. target_sum g.rows g.weights state)
      round.order (omega (arith, size, rows)) (split_inside n g h splits parents weighted round)
      (whole_sum n g h splits parents weighted round) (parts_sum n g h splits parents weighted round)

-- ways are kept by any round
pub ways_kept : (n : ℕ) (g h : WeightedData) (splits : List SplitData) (parents : List ℕ) → 1 ≤ n → IsWeighted n g → IsIrreducible g.rows → IsRound n g splits h parents → IsIrreducible h.rows
ways_kept n g h splits parents least weighted joined round = round_irreducible n g h splits parents weighted round least joined

-- all three for any round
pub weights_kept : (n : ℕ) (g h : WeightedData) (splits : List SplitData) (parents : List ℕ) → 1 ≤ n → IsWeighted n g → IsRound n g splits h parents
    → IsWeighted n h × (sum h.weights ≡ sum g.weights) × (spread h.rows h.weights ≡ spread g.rows g.weights)
weights_kept n g h splits parents least weighted round = (
  round_weighted n g h splits parents weighted round least,
  round_sum n g h splits parents weighted round,
  round_spread n g h splits parents weighted round,
)

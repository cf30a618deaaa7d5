-- What the edges that leave a part lead to: each leads to all parts of its target, which together weigh what that weighs.
use Rattle.std.proofs.Common.{◌≡◌, ℕ, ◌+◌, ◌<◌, inl, inr, List, [], length, get_or, map, eqb, refl, ap, sym, ◌∙◌, subst, arith}
use Rattle.std.specs.Prelude.{Contains, Some, slice_get, filter}
use Rattle.std.specs.List.{sum_by, range_with_len, flat_map}
use Rattle.std.proofs.lemmas.Bool.{eqb-true, eq-eqb}
use Rattle.std.proofs.lemmas.Option.{slice_get_within}
use Rattle.std.proofs.lemmas.List.Sums.{sum-map}
use Rattle.symbol_base.proofs.AscendingNumbers.{Contains-range, filter_keeps, filter_kept, filter_ascends}
use Rattle.label_graphs.specs.Graph.{EdgeData}
use Rattle.label_graphs.specs.Vector.{target_sum}
use Rattle.split_spec.specs.Weighted.{IsWeighted, WeightedData}
use Rattle.split_spec.specs.Run.{weight_of}
use Rattle.split_spec.specs.Round.{SplitData, IsWhole, Leaves, whole, in_run, in_rest, IsRound}
use Rattle.split_spec.proofs.EdgeEnds.{edge_to, target_inside}
use Rattle.split_spec.proofs.Listed.{listed_map, map_listed, listed_flat, flat_listed}
use Rattle.split_spec.proofs.RoundLists.{NoneTwice, numbers_once, same_sums, sum_of_one, sum_of_two, once_map, sum_by-map, once_flat, sum_flat}
use Rattle.split_spec.proofs.RoundParts.{split_place, split_listed, split_or_whole, parents_size, parent_low, parent_high, part_of_whole, part_of_split}
use Rattle.split_spec.proofs.RoundHalves.{row_once}
use Rattle.split_spec.proofs.RoundEdges.{leaves_whole, leaves_run, leaves_rest, split_inside, others_of, split_halves}

-- the parts of a state
abbrev pub parts_of : List ℕ → ℕ → List ℕ
parts_of parents state = filter (λ part. eqb (get_or parents part 0) state) (range_with_len 0 (length parents))

-- a part of a state has it as its parent
pub part_known : (parents : List ℕ) (state part : ℕ) → Contains (parts_of parents state) part → (part < length parents) × (get_or parents part 0 ≡ state)
part_known parents state part found =
    let kept = filter_keeps (λ t. eqb (get_or parents t 0) state) (range_with_len 0 (length parents)) part found in
    let low = ((Contains-range 0 (length parents) part).0 kept.0).1 in
    (omega (arith, low), eqb-true (get_or parents part 0) state kept.1)

-- and each state with this parent is a part
pub part_listed : (parents : List ℕ) (state part : ℕ) → part < length parents → get_or parents part 0 ≡ state → Contains (parts_of parents state) part
part_listed parents state part inside parent =
    filter_kept (λ t. eqb (get_or parents t 0) state) (range_with_len 0 (length parents)) part
    ((Contains-range 0 (length parents) part).1 (omega arith, omega (arith, inside))) (eq-eqb (get_or parents part 0) state parent)

-- no part comes twice
pub parts_once : (parents : List ℕ) (state : ℕ) → NoneTwice (parts_of parents state)
parts_once parents state = numbers_once (parts_of parents state) (filter_ascends (λ t. eqb (get_or parents t 0) state) 0 (length parents))

-- the edges that an edge between states becomes, which lead to the parts of its target
abbrev pub leads : List ℕ → EdgeData → List EdgeData
leads parents e = map (edge_to e.block) (parts_of parents e.to)

-- the edge of which an edge to a part was made
abbrev pub source_of : List ℕ → EdgeData → EdgeData
source_of parents f = edge_to f.block (get_or parents f.to 0)

-- an edge that an edge becomes has that as its source
pub lead_known : (parents : List ℕ) (e f : EdgeData) → Contains (leads parents e) f → (f.to < length parents) × (source_of parents f ≡ e)
lead_known parents e f found =
    let made = listed_map (edge_to e.block) (parts_of parents e.to) f found in
    let part = part_known parents e.to made.0 made.1 in
    subst (λ (x : EdgeData). (x.to < length parents) × (source_of parents x ≡ e)) made.2 (part.0, ap (edge_to e.block) part.1)

-- and each edge is among those that its source becomes
pub lead_listed : (parents : List ℕ) (f : EdgeData) → f.to < length parents → Contains (leads parents (source_of parents f)) f
lead_listed parents f inside =
    map_listed (edge_to f.block) (parts_of parents (get_or parents f.to 0)) f.to (part_listed parents (get_or parents f.to 0) f.to inside refl)

-- none of them comes twice
leads_once : (parents : List ℕ) (e : EdgeData) → NoneTwice (leads parents e)
leads_once parents e = once_map (edge_to e.block) (λ (f : EdgeData). f.to) (λ t. refl) (parts_of parents e.to) (parts_once parents e.to)

module _ (n : ℕ) (g h : WeightedData) (splits : List SplitData) (parents : List ℕ) (weighted : IsWeighted n g) (round : IsRound n g splits h parents) where
  -- a whole state weighs what it weighed
  whole_weighs : (state : ℕ) → state < length g.rows → IsWhole splits state
      → sum_by (λ t. get_or h.weights t 0) (parts_of parents state) ≡ get_or g.weights state 0
  whole_weighs state inside unsplit =
      let size = parents_size (length g.rows) splits parents round.parents_are in
      let own = parent_low (length g.rows) splits parents round.parents_are state inside in
      sum_of_one (λ t. get_or h.weights t 0) (parts_of parents state) state (parts_once parents state)
      (part_listed parents state state (omega (arith, size, inside)) own)
      (λ t found.
      let known = part_known parents state t found in
      part_of_whole (length g.rows) splits parents round.parents_are state t unsplit known.0 known.1)
      ∙ round.whole state inside unsplit

  -- the two parts of a split state
  two_parts : (place : ℕ) (split : SplitData) → slice_get splits place ≡ Some split
      → Contains (parts_of parents split.state) split.state × Contains (parts_of parents split.state) (length g.rows + place)
  two_parts place split at =
      let m = length g.rows in
      let size = parents_size m splits parents round.parents_are in
      let low = split_inside n g h splits parents weighted round split (split_listed splits place split at) in
      let within = slice_get_within splits place split at in (
        part_listed parents split.state split.state (omega (arith, size, low)) (parent_low m splits parents round.parents_are split.state low),
        part_listed parents split.state (m + place) (omega (arith, size, within)) (parent_high m splits parents round.parents_are place split at),
      )

  -- the two parts of a split state weigh together what it weighed
  split_weighs : (place : ℕ) (split : SplitData) → slice_get splits place ≡ Some split
      → sum_by (λ t. get_or h.weights t 0) (parts_of parents split.state) ≡ get_or g.weights split.state 0
  split_weighs place split at =
      let m = length g.rows in
      let first = split.state in
      let listed = split_listed splits place split at in
      let low = split_inside n g h splits parents weighted round split listed in
      let both = two_parts place split at in
      let sum = sum_of_two (λ t. get_or h.weights t 0) (parts_of parents first) first (m + place) (parts_once parents first)
      (λ same. omega (arith, low, same)) both.0 both.1
      (λ t found.
      let known = part_known parents first t found in
      part_of_split m splits parents round.parents_are place split t round.order at known.0 known.1) in
      let run = round.run split listed in
      let rest = round.rest place split at in
      omega (arith, sum, run, rest)

  -- the parts of a state weigh together what it weighs
  pub parts_weigh : (state : ℕ) → state < length g.rows → sum_by (λ t. get_or h.weights t 0) (parts_of parents state) ≡ get_or g.weights state 0
  parts_weigh state inside = elim (split_or_whole splits state) [
    | inr unsplit ↦ whole_weighs state inside unsplit
    | inl found ↦ (
        let place = split_place splits found.0 found.1 in
        subst (λ s. sum_by (λ t. get_or h.weights t 0) (parts_of parents s) ≡ get_or g.weights s 0) found.2 (split_weighs place.0 found.0 place.1))
  ]

  -- What leaves a part, each edge once, leads to as much as its edges to whole states do.
  part_sum : (part : ℕ) (taken : List EdgeData) → part < length h.rows → NoneTwice taken → ((e : EdgeData) → Contains taken e → e.to < length g.rows)
      → ((e : EdgeData) → Leaves g.rows splits part e → Contains taken e) → ((e : EdgeData) → Contains taken e → Leaves g.rows splits part e)
      → target_sum h.rows h.weights part ≡ weight_of g.weights taken
  part_sum part taken inside once low there here =
      let W : EdgeData → ℕ = λ e. get_or h.weights e.to 0 in
      let V : EdgeData → ℕ = λ e. get_or g.weights e.to 0 in
      let row = get_or h.rows part [] in
      let F = leads parents in
      let each = once_flat F (source_of parents) (leads_once parents) (λ e f found. (lead_known parents e f found).1) taken once in
      let same = same_sums W row (flat_map F taken) (row_once row (round.graph.order part [] inside)) each
      (λ f found.
      let told = (round.edges part f.block f.to).0 found in
      flat_listed F taken (source_of parents f) f (there (source_of parents f) told.1) (lead_listed parents f told.0))
      (λ f found.
      let made = listed_flat F taken f found in
      let known = lead_known parents made.0 f made.2 in
      (round.edges part f.block f.to).1 (known.0, subst (λ (e : EdgeData). Leaves g.rows splits part e) (sym known.1) (here made.0 made.1))) in
      let flat = sum_flat F W V taken (λ e found.
      sum_by-map W (edge_to e.block) (parts_of parents e.to) ∙ parts_weigh e.to (low e found)) in
      sum-map W row ∙ same ∙ flat ∙ sym (sum-map V taken)

  -- a whole state leads to as much as before
  pub whole_sum : (state : ℕ) → state < length g.rows → IsWhole splits state → target_sum h.rows h.weights state ≡ target_sum g.rows g.weights state
  whole_sum state inside unsplit =
      let size = parents_size (length g.rows) splits parents round.parents_are in
      let rows = round.rows_size in
      part_sum state (get_or g.rows state []) (omega (arith, rows, size, inside)) (row_once (get_or g.rows state []) (weighted.weights.graph.order state [] inside))
      (λ e edge. target_inside g.rows state e.block e.to weighted.weights.graph edge)
      (λ e leaves. leaves_whole g.rows splits (split_inside n g h splits parents weighted round) state e unsplit inside leaves)
      (λ e edge. whole inside unsplit edge)

  -- the part with the run to what the run leads to
  pub run_sum : (split : SplitData) → Contains splits split → target_sum h.rows h.weights split.state ≡ weight_of g.weights split.run
  run_sum split listed =
      let size = parents_size (length g.rows) splits parents round.parents_are in
      let rows = round.rows_size in
      let low = split_inside n g h splits parents weighted round split listed in
      let parted = split_halves n g h splits parents weighted round split listed in
      part_sum split.state split.run (omega (arith, rows, size, low)) parted.run_once
      (λ e edge. target_inside g.rows split.state e.block e.to weighted.weights.graph (parted.of_run e edge))
      (λ e leaves. leaves_run g.rows splits (split_inside n g h splits parents weighted round) split e round.order listed leaves)
      (λ e edge. in_run split listed refl edge)

  -- the part with the rest to what the others lead to
  rest_sum : (place : ℕ) (split : SplitData) (at : slice_get splits place ≡ Some split)
      → target_sum h.rows h.weights (length g.rows + place)
      ≡ weight_of g.weights (others_of n g h splits parents weighted round split (split_listed splits place split at))
  rest_sum place split at =
      let size = parents_size (length g.rows) splits parents round.parents_are in
      let rows = round.rows_size in
      let listed = split_listed splits place split at in
      let low = split_inside n g h splits parents weighted round split listed in
      let within = slice_get_within splits place split at in
      let parted = split_halves n g h splits parents weighted round split listed in
      part_sum (length g.rows + place) (others_of n g h splits parents weighted round split listed) (omega (arith, rows, size, within)) parted.others_once
      (λ e edge. target_inside g.rows split.state e.block e.to weighted.weights.graph (parted.of_others e edge))
      (λ e leaves.
      let told = leaves_rest g.rows splits (split_inside n g h splits parents weighted round) place split e at leaves in
      elim (parted.either e told.0) [
        | inl run ↦ absurd (told.1 run)
        | inr other ↦ other
      ])
      (λ e edge. in_rest place split at refl (parted.of_others e edge) (λ run. parted.apart e run edge))

  -- and the two together to as much as the state before
  pub parts_sum : (place : ℕ) (split : SplitData) → slice_get splits place ≡ Some split
      → target_sum h.rows h.weights split.state + target_sum h.rows h.weights (length g.rows + place) ≡ target_sum g.rows g.weights split.state
  parts_sum place split at =
      let listed = split_listed splits place split at in
      let run = run_sum split listed in
      let rest = rest_sum place split at in
      let all = (split_halves n g h splits parents weighted round split listed).weight in
      omega (arith, run, rest, all)

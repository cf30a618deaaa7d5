-- The splits of a round, found state by state.
use Rattle.std.proofs.Common.{◌≡◌, ℕ, ◌+◌, ◌*◌, ◌<◌, ◌≤◌, List, [], ◌∷◌, ◌++◌, length, get_or, inl, inr, refl, ap, sym, ◌∙◌, subst, arith}
use Rattle.std.specs.Prelude.{All, Contains}
use Rattle.std.proofs.lemmas.Bool.{cases_lt}
use Rattle.std.proofs.lemmas.List.Elements.{Contains-push, Contains-push_cases, Contains-append_left}
use Rattle.label_graphs.specs.Graph.{EdgeData, IsGraph}
use Rattle.label_graphs.proofs.Renumbered.{target_of}
use Rattle.split_spec.specs.Weighted.{WeightedData}
use Rattle.split_spec.specs.Run.{weight_of, IsRun}
use Rattle.split_spec.specs.Round.{SplitData, IsSplit}
use Rattle.split_spec.proofs.RunAlone.{a_row_has_one_run}
use Rattle.split_spec.proofs.RunPlaces.{run_in_row}
use Rattle.split_spec.proofs.SumsBounded.{weight-cons}
use Rattle.state_split.specs.inside.Splits.{IsSplitAt, AreSplitsBelow}
use Rattle.state_split.proofs.Ascending.{appended_ascends}

-- edges to states of positive weight weigh something
some_weight : (x : List ℕ) (edges : List EdgeData) → 0 < length edges → ((e : EdgeData) → Contains edges e → 0 < get_or x e.to 0) → 0 < weight_of x edges
some_weight x [] some each = absurd (omega (arith, some))
some_weight x (e ∷ edges) some each =
    let first = each e (0, omega arith, refl) in
    let more = weight-cons x e edges in
    omega (arith, first, more)

-- a state of weight 1 isn't split
pub no_light_split : (n : ℕ) (g : WeightedData) (split : SplitData) → IsGraph g.rows → length g.weights ≡ length g.rows → All (λ (w : ℕ). 0 < w) g.weights
    → get_or g.weights split.state 0 < 2 → IsSplit n g split → ⊥
no_light_split n g split graph size positive light is =
    let some = some_weight g.weights split.run is.run.some
    (λ e found.
    let edge = run_in_row n g.weights (get_or g.rows split.state []) split.run split.y is.run e found in
    let low = target_of g.rows split.state e.block e.to graph is.inside edge in
    positive e.to 0 (omega (arith, low, size))) in
    let all = is.run.weight in
    let less = is.lighter in
    let nothing : split.y ≡ 0 = omega (arith, less, light) in
    omega (arith, some, all, ap (λ y. n * y) nothing)

-- nor is one without a run
pub no_runless_split : (n state : ℕ) (g : WeightedData) (row : List EdgeData) → row ≡ get_or g.rows state []
    → ((run : List EdgeData) (y : ℕ) → IsRun n g.weights row run y → ⊥) → (split : SplitData) → IsSplitAt n g state split → ⊥
no_runless_split n state g row is none split found =
    none split.run split.y
    (subst (λ (es : List EdgeData). IsRun n g.weights es split.run split.y) (ap (λ s. get_or g.rows s []) found.0 ∙ sym is) found.1.run)

-- nor one whose run weighs as much
pub no_heavy_split : (n state y : ℕ) (g : WeightedData) (row run : List EdgeData) → row ≡ get_or g.rows state []
    → IsRun n g.weights row run y → get_or g.weights state 0 ≤ y → (split : SplitData) → IsSplitAt n g state split → ⊥
no_heavy_split n state y g row run is known heavy split found =
    let there = subst (λ (es : List EdgeData). IsRun n g.weights es split.run split.y) (ap (λ s. get_or g.rows s []) found.0 ∙ sym is) found.1.run in
    let same = (a_row_has_one_run n g.weights row run split.run y split.y known there).1 in
    let less = found.1.lighter in
    omega (arith, same, less, heavy, ap (λ s. get_or g.weights s 0) found.0)

abbrev split_data : ℕ → List EdgeData → ℕ → SplitData
split_data state run y = record { state = state; run = run; y = y }

-- a state has one split
one_split : (n : ℕ) (g : WeightedData) (one other : SplitData) → one.state ≡ other.state → IsSplit n g one → IsSplit n g other → one ≡ other
one_split n g one other at is also =
    let there = subst (λ (s : ℕ). IsRun n g.weights (get_or g.rows s []) other.run other.y) (sym at) also.run in
    let same = a_row_has_one_run n g.weights (get_or g.rows one.state []) one.run other.run one.y other.y is.run there in
    ap (λ s. split_data s one.run one.y) at ∙ ap (λ (es : List EdgeData). split_data other.state es one.y) same.0 ∙ ap (λ y. split_data other.state other.run y) same.1

-- the next state is split
pub splits_more : (n state : ℕ) (g : WeightedData) (splits more : List SplitData) (split : SplitData) → AreSplitsBelow n g state splits
    → IsSplitAt n g state split → more ≡ splits ++ split ∷ [] → AreSplitsBelow n g (state + 1) more
splits_more n state g splits more split known found joined =
    subst (λ (list : List SplitData). AreSplitsBelow n g (state + 1) list) (sym joined)
    (record {
      order = appended_ascends (λ (a b : SplitData). a.state < b.state) splits (split ∷ []) known.order tt
          (λ a b left right.
          let low = ((known.exact a).0 left).0 in
          let here : b.state ≡ state = elim (Contains-push_cases [] split b right) [
            | inl none ↦ absurd (omega (arith, none.1))
            | inr same ↦ sym (ap (λ (s : SplitData). s.state) same) ∙ found.0
          ] in
          omega (arith, low, here));
      exact = λ s. (
        (λ listed. elim (Contains-push_cases splits split s listed) [
          | inl before ↦ (let old = (known.exact s).0 before in ((let low = old.0 in omega (arith, low)), old.1))
          | inr same ↦ (
            (let at : s.state ≡ state = sym (ap (λ (t : SplitData). t.state) same) ∙ found.0 in omega (arith, at)),
            subst (IsSplit n g) same found.1,
          )
        ]),
        (λ is. elim (cases_lt s.state state) [
          | inl low ↦ Contains-append_left splits (split ∷ []) s ((known.exact s).1 (low, is.1))
          | inr high ↦ (
              let inside = is.0 in
              let at : split.state ≡ s.state = found.0 ∙ omega (arith, high, inside) in
              subst (λ (t : SplitData). Contains (splits ++ split ∷ []) t) (one_split n g split s at found.1 is.1) (Contains-push splits split))
        ]),
      );
    })

-- it isn't
pub splits_same : (n state : ℕ) (g : WeightedData) (splits : List SplitData) → AreSplitsBelow n g state splits
    → ((split : SplitData) → IsSplitAt n g state split → ⊥) → AreSplitsBelow n g (state + 1) splits
splits_same n state g splits known none = record {
  order = known.order;
  exact = λ s. (
    (λ listed. let old = (known.exact s).0 listed in ((let low = old.0 in omega (arith, low)), old.1)),
    (λ is. elim (cases_lt s.state state) [
      | inl low ↦ (known.exact s).1 (low, is.1)
      | inr high ↦ absurd (none s ((let inside = is.0 in omega (arith, high, inside)), is.1))
    ]),
  );
}

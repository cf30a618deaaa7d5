-- The weights of parts: of a state that is split the run takes its weight, and the part behind the states what is left.
use Rattle.std.proofs.Common.{◌≡◌, ℕ, ◌+◌, ◌-◌, ◌<◌, List, [], ◌∷◌, ◌++◌, length, get_or, set, take, inl, inr, ap, sym, ◌∙◌, subst, arith, length-append}
use Rattle.std.specs.Prelude.{All, Some, slice_get}
use Rattle.std.proofs.Math.Seq.{get_or-append_seam}
use Rattle.std.proofs.lemmas.Bool.{cases_lt}
use Rattle.std.proofs.lemmas.List.{length-take-le, length-set, get_or-set_same, get_or-set_other, get_or_append_left, get_or-take, get_or_default, take_more}
use Rattle.std.proofs.lemmas.List.Elements.{All-take, All-contains, Contains-push_cases}
use Rattle.std.proofs.lemmas.Option.{slice_get_within, slice_get-get_or, get_or_from_slice_get}
use Rattle.symbol_base.specs.Ascending.{IsAscending}
use Rattle.split_spec.specs.Round.{SplitData, IsWhole}
use Rattle.split_spec.proofs.OrderTold.{later_behind}
use Rattle.split_spec.proofs.RoundParts.{whole_unsplit}
use Rattle.state_split.specs.inside.Parts.{AreSplitsOf, ArePartWeights}

-- ---- splits one after another

-- a state of which no split is has none among the first
whole_in_front : (splits : List SplitData) (next : SplitData) (state : ℕ) → IsWhole (splits ++ next ∷ []) state → IsWhole splits state
whole_in_front splits next state whole = λ k d low same.
    whole k d (omega (arith, low, length-append splits (next ∷ []))) (ap (λ (s : SplitData). s.state) (get_or_append_left splits (next ∷ []) d k low) ∙ same)

-- nor is the last one of it
whole_of_last : (splits : List SplitData) (next : SplitData) (state : ℕ) → IsWhole (splits ++ next ∷ []) state → next.state ≡ state → ⊥
whole_of_last splits next state whole same =
    whole (length splits) next (omega (arith, length-append splits (next ∷ [])))
    (ap (λ (s : SplitData). s.state) (get_or-append_seam splits next [] next) ∙ same)

-- a split at a place before the last is one of the first
place_in_front : (splits : List SplitData) (next : SplitData) (place : ℕ) (split : SplitData) → slice_get (splits ++ next ∷ []) place ≡ Some split
    → place < length splits → slice_get splits place ≡ Some split
place_in_front splits next place split there inside =
    let same : get_or (splits ++ next ∷ []) place split ≡ get_or splits place split = get_or_append_left splits (next ∷ []) split place inside in
    slice_get-get_or splits place split inside
    ∙ ap (λ (s : SplitData). Some s) (sym same ∙ get_or_from_slice_get (splits ++ next ∷ []) place split split there)

-- and one at the last place is the last
last_place : (splits : List SplitData) (next : SplitData) (place : ℕ) (split : SplitData) → slice_get (splits ++ next ∷ []) place ≡ Some split
    → place ≡ length splits → next ≡ split
last_place splits next place split there last =
    sym (get_or-append_seam splits next [] split) ∙ ap (λ k. get_or (splits ++ next ∷ []) k split) (sym last)
    ∙ get_or_from_slice_get (splits ++ next ∷ []) place split split there

-- the state of the next split of an ascending list has none before it
next_is_whole : (splits : List SplitData) (i : ℕ) (next : SplitData) → IsAscending (λ (a b : SplitData). a.state < b.state) splits → i < length splits
    → next ≡ get_or splits i next → IsWhole (take i splits) next.state
next_is_whole splits i next order low there = λ k d inside same.
    let less : k < i = (let count = length-take-le i splits (omega (arith, low)) in omega (arith, inside, count)) in
    let later = later_behind (λ (s t : SplitData). s.state < t.state) splits k i d
    (record { trans = λ s t u one other. omega (arith, one, other); never = λ s itself. absurd (omega (arith, itself)) }) order less low in
    let first : (get_or (take i splits) k d).state ≡ (get_or splits k d).state = ap (λ (s : SplitData). s.state) (get_or-take i splits k d less) in
    let second : next.state ≡ (get_or splits i d).state = ap (λ (s : SplitData). s.state) (there ∙ get_or_default splits i next d low) in
    absurd (omega (arith, later, first, second, same))

-- ---- their weights

-- the weights with one more split
abbrev with_split : List ℕ → SplitData → ℕ → List ℕ
with_split list next rest = set list next.state next.y ++ rest ∷ []

-- of the other parts they stay
others_stay : (list : List ℕ) (next : SplitData) (rest at : ℕ) → at < length list → (next.state ≡ at → ⊥)
    → get_or (with_split list next rest) at 0 ≡ get_or list at 0
others_stay list next rest at low other =
    get_or_append_left (set list next.state next.y) (rest ∷ []) 0 at (omega (arith, low, length-set list next.state next.y))
    ∙ get_or-set_other list next.state at next.y 0 (λ same. other (sym same))

-- the first part takes the weight of the run
first_takes_run : (list : List ℕ) (next : SplitData) (rest : ℕ) → next.state < length list → get_or (with_split list next rest) next.state 0 ≡ next.y
first_takes_run list next rest low =
    get_or_append_left (set list next.state next.y) (rest ∷ []) 0 next.state (omega (arith, low, length-set list next.state next.y))
    ∙ get_or-set_same list next.state next.y 0 low

-- and the second part takes the rest
second_takes_rest : (list : List ℕ) (next : SplitData) (rest at : ℕ) → at ≡ length list → get_or (with_split list next rest) at 0 ≡ rest
second_takes_rest list next rest at last =
    ap (λ k. get_or (with_split list next rest) k 0) (last ∙ sym (length-set list next.state next.y))
    ∙ get_or-append_seam (set list next.state next.y) rest [] 0

-- so they are the weights of the parts of one more split
weights_push : (x : List ℕ) (splits : List SplitData) (next : SplitData) (list : List ℕ) (rest : ℕ) → ArePartWeights x splits list
    → All (λ (s : SplitData). s.state < length x) splits → next.state < length x → IsWhole splits next.state → rest + next.y ≡ get_or x next.state 0
    → ArePartWeights x (splits ++ next ∷ []) (with_split list next rest)
weights_push x splits next list rest known inside low whole left =
    let size : length list ≡ length x + length splits = known.size in
    record {
      size = omega (arith, size, length-append splits (next ∷ []), length-append (set list next.state next.y) (rest ∷ []), length-set list next.state next.y);
      whole = λ state fits none.
          others_stay list next rest state (omega (arith, fits, size)) (whole_of_last splits next state none)
          ∙ known.whole state fits (whole_in_front splits next state none);
      run = λ split found. elim (Contains-push_cases splits next split found) [
        | inl old ↦ (
            let fits : split.state < length x = All-contains (λ (s : SplitData). s.state < length x) splits split inside old in
            let other : next.state ≡ split.state → ⊥ = λ same. whole_unsplit splits next.state split whole old (sym same) in
            others_stay list next rest split.state (omega (arith, fits, size)) other ∙ known.run split old)
        | inr same ↦
            subst (λ (s : SplitData). get_or (with_split list next rest) s.state 0 ≡ s.y) same (first_takes_run list next rest (omega (arith, low, size)))
      ];
      rest = λ place split there. elim (cases_lt place (length splits)) [
        | inl less ↦ (
            let kept = others_stay list next rest (length x + place) (omega (arith, less, size)) (λ same. absurd (omega (arith, same, low))) in
            ap (λ w. w + split.y) kept ∙ known.rest place split (place_in_front splits next place split there less))
        | inr more ↦ (
            let last : place ≡ length splits =
            (let within = slice_get_within (splits ++ next ∷ []) place split there in omega (arith, within, more, length-append splits (next ∷ []))) in
            subst (λ (s : SplitData). get_or (with_split list next rest) (length x + place) 0 + s.y ≡ get_or x s.state 0)
            (last_place splits next place split there last)
            (ap (λ w. w + next.y) (second_takes_rest list next rest (length x + place) (omega (arith, last, size))) ∙ left))
      ];
    }

-- ---- the next split of a list

-- the state of the next split still has its weight
pub next_weight : (x : List ℕ) (splits : List SplitData) (i : ℕ) (next : SplitData) (list : List ℕ) (at weight : ℕ) → ArePartWeights x (take i splits) list
    → AreSplitsOf (length x) splits → i < length splits → next ≡ get_or splits i next → at ≡ next.state → weight ≡ get_or list at weight
    → weight ≡ get_or x next.state 0
next_weight x splits i next list at weight known are low there here read =
    let fits : next.state < length x = subst (λ (s : SplitData). s.state < length x) (sym there) (are.inside i next low) in
    read ∙ ap (λ k. get_or list k weight) here ∙ get_or_default list next.state weight 0 (let size = known.size in omega (arith, fits, size))
    ∙ known.whole next.state fits (next_is_whole splits i next are.order low there)

-- which is more than its run weighs
pub run_is_lighter : (x : List ℕ) (splits : List SplitData) (i : ℕ) (next : SplitData) → All (λ (s : SplitData). s.y < get_or x s.state 0) splits
    → i < length splits → next ≡ get_or splits i next → next.y < get_or x next.state 0
run_is_lighter x splits i next lighter low there = subst (λ (s : SplitData). s.y < get_or x s.state 0) (sym there) (lighter i next low)

-- and its parts get their weights
pub weights_more : (x : List ℕ) (splits : List SplitData) (i : ℕ) (next : SplitData) (list new : List ℕ) (at y weight : ℕ)
    → ArePartWeights x (take i splits) list → AreSplitsOf (length x) splits → All (λ (s : SplitData). s.y < get_or x s.state 0) splits
    → i < length splits → next ≡ get_or splits i next → at ≡ next.state → y ≡ next.y → weight ≡ get_or list at weight
    → new ≡ set list at y ++ (weight - y) ∷ [] → ArePartWeights x (take (i + 1) splits) new
weights_more x splits i next list new at y weight known are lighter low there here run read pushed =
    let first = take i splits in
    let taken : take (i + 1) splits ≡ first ++ next ∷ [] = take_more splits i next low ∙ ap (λ (s : SplitData). first ++ s ∷ []) (sym there) in
    let fits : next.state < length x = subst (λ (s : SplitData). s.state < length x) (sym there) (are.inside i next low) in
    let held = next_weight x splits i next list at weight known are low there here read in
    let less = run_is_lighter x splits i next lighter low there in
    let same : new ≡ with_split list next (weight - y) = pushed ∙ ap (λ k. set list k y ++ (weight - y) ∷ []) here
    ∙ ap (λ w. set list next.state w ++ (weight - y) ∷ []) run in
    subst (λ (ss : List SplitData). ArePartWeights x ss new) (sym taken)
    (subst (λ (ws : List ℕ). ArePartWeights x (first ++ next ∷ []) ws) (sym same)
    (weights_push x first next list (weight - y) known (All-take (λ (s : SplitData). s.state < length x) i splits are.inside) fits
    (next_is_whole splits i next are.order low there) (omega (arith, held, less, run))))

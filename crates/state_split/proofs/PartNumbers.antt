-- The numbers of parts: the states, and behind them the second parts in the order of the splits.
use Rattle.std.proofs.Common.{◌≡◌, ℕ, ◌+◌, ◌<◌, ◌≤◌, List, [], ◌∷◌, ◌++◌, length, get_or, set, map, take, inl, inr, ap, sym, ◌∙◌, subst, arith, append-nil, length-append}
use Rattle.std.specs.Prelude.{All, Option, Some, None, IfSome, IfNone, slice_get}
use Rattle.std.specs.List.{range_with_len}
use Rattle.std.proofs.Math.Seq.{get_or-append_seam}
use Rattle.std.proofs.lemmas.Bool.{cases_eq}
use Rattle.std.proofs.lemmas.List.{map-id, length-map, length-take, length-take-le}
use Rattle.std.proofs.lemmas.List.{length-set, get_or-set_same, get_or-set_other, get_or_append_left, take_more}
use Rattle.std.proofs.lemmas.List.Elements.{All-push}
use Rattle.std.proofs.lemmas.List.FromFn.{map-range_with_len_more, length-range_with_len}
use Rattle.std.proofs.lemmas.Option.{slice_get_within, slice_get-get_or, get_or_from_slice_get}
use Rattle.split_spec.specs.Round.{SplitData, IsWhole}
use Rattle.state_split.specs.inside.Parts.{IsSecondPart, AreSecondParts, part_parents}

-- ---- the parents

-- one more state
range_more : (n : ℕ) → range_with_len 0 (n + 1) ≡ range_with_len 0 n ++ n ∷ []
range_more n =
    sym (map-id (range_with_len 0 (n + 1))) ∙ map-range_with_len_more (λ k. k) 0 n n (omega arith)
    ∙ ap (λ (ns : List ℕ). ns ++ n ∷ []) (map-id (range_with_len 0 n))

-- each of the first states is its own parent
pub own_more : (n : ℕ) (parents more : List ℕ) → parents ≡ range_with_len 0 n → more ≡ parents ++ n ∷ [] → more ≡ range_with_len 0 (n + 1)
own_more n parents more known pushed = pushed ∙ ap (λ (ns : List ℕ). ns ++ n ∷ []) known ∙ sym (range_more n)

-- and of states that aren't split there are no other parts
pub parents_of_whole : (states : ℕ) → part_parents states [] ≡ range_with_len 0 states
parents_of_whole states = append-nil (range_with_len 0 states)

-- there is no more than one parent for each state and each split
pub parents_count : (states k : ℕ) (splits : List SplitData) (parents : List ℕ) → parents ≡ part_parents states (take k splits)
    → length parents ≤ states + length splits
parents_count states k splits parents are =
    let first = take k splits in
    let all : length parents ≡ length (part_parents states first) = ap (λ (ns : List ℕ). length ns) are in
    omega (
      arith,
      all,
      length-append (range_with_len 0 states) (map (λ (s : SplitData). s.state) first),
      length-range_with_len 0 states,
      length-map first (λ (s : SplitData). s.state),
      length-take k splits,
    )

-- ---- the second parts

-- a split stands at the same place where more follow
pub stays_at : (splits : List SplitData) (next : SplitData) (place : ℕ) (split : SplitData) → slice_get splits place ≡ Some split
    → slice_get (splits ++ next ∷ []) place ≡ Some split
stays_at splits next place split there =
    let inside = slice_get_within splits place split there in
    slice_get-get_or (splits ++ next ∷ []) place split (omega (arith, inside, length-append splits (next ∷ [])))
    ∙ ap (λ (s : SplitData). Some s) (get_or_append_left splits (next ∷ []) split place inside ∙ get_or_from_slice_get splits place split split there)

-- and the next one behind them
pub stands_last : (splits : List SplitData) (next : SplitData) → slice_get (splits ++ next ∷ []) (length splits) ≡ Some next
stands_last splits next =
    slice_get-get_or (splits ++ next ∷ []) (length splits) next (omega (arith, length-append splits (next ∷ [])))
    ∙ ap (λ (s : SplitData). Some s) (get_or-append_seam splits next [] next)

-- a second part keeps its number where more splits follow
stays_second : (states more : ℕ) (splits : List SplitData) (next : SplitData) (state part : ℕ) → more ≡ states → IsSecondPart states splits state part
    → IsSecondPart more (splits ++ next ∷ []) state part
stays_second states more splits next state part same is = record {
  place = is.place;
  split = is.split;
  there = stays_at splits next is.place is.split is.there;
  of = is.of;
  number = is.number ∙ ap (λ n. n + is.place) (sym same);
}

-- where the state has one
stay_second : (states more : ℕ) (splits : List SplitData) (next : SplitData) (state : ℕ) (old : Option ℕ) → more ≡ states
    → IfSome old (IsSecondPart states splits state) → IfSome old (IsSecondPart more (splits ++ next ∷ []) state)
stay_second states more splits next state None same known = tt
stay_second states more splits next state (Some part) same known = stays_second states more splits next state part same known

-- a state of which none of the splits is stays whole, where the next isn't of it either
stay_whole : (splits : List SplitData) (next : SplitData) (state : ℕ) (old : Option ℕ) → (next.state ≡ state → ⊥)
    → IfNone old (IsWhole splits state) → IfNone old (IsWhole (splits ++ next ∷ []) state)
stay_whole splits next state None other known = All-push (λ (s : SplitData). s.state ≡ state → ⊥) splits next known other
stay_whole splits next state (Some part) other known = tt

-- the number of one more second part is put at its state
second_push : (splits : List SplitData) (next : SplitData) (parts : List (Option ℕ)) (part : ℕ) → AreSecondParts splits parts
    → next.state < length parts → part ≡ length parts + length splits → AreSecondParts (splits ++ next ∷ []) (set parts next.state (Some part))
second_push splits next parts part known inside number =
    let new = set parts next.state (Some part) in
    let count : length new ≡ length parts = length-set parts next.state (Some part) in
    let here : get_or new next.state None ≡ Some part = get_or-set_same parts next.state (Some part) None inside in
    record {
      split = λ state low. elim (cases_eq next.state state) [
        | inl same ↦
            subst (λ (o : Option ℕ). IfSome o (IsSecondPart (length new) (splits ++ next ∷ []) state)) (sym (ap (λ k. get_or new k None) (sym same) ∙ here))
            (record {
              place = length splits;
              split = next;
              there = stands_last splits next;
              of = same;
              number = number ∙ ap (λ n. n + length splits) (sym count);
            })
        | inr other ↦
            subst (λ (o : Option ℕ). IfSome o (IsSecondPart (length new) (splits ++ next ∷ []) state))
            (sym (get_or-set_other parts next.state state (Some part) None (λ at. other (sym at))))
            (stay_second (length parts) (length new) splits next state (get_or parts state None) count (known.split state (omega (arith, low, count))))
      ];
      whole = λ state low. elim (cases_eq next.state state) [
        | inl same ↦
            subst (λ (o : Option ℕ). IfNone o (IsWhole (splits ++ next ∷ []) state)) (sym (ap (λ k. get_or new k None) (sym same) ∙ here)) tt
        | inr other ↦
            subst (λ (o : Option ℕ). IfNone o (IsWhole (splits ++ next ∷ []) state))
            (sym (get_or-set_other parts next.state state (Some part) None (λ at. other (sym at))))
            (stay_whole splits next state (get_or parts state None) other (known.whole state (omega (arith, low, count))))
      ];
    }

-- the same of the next split of a list
pub second_more : (splits : List SplitData) (i : ℕ) (next : SplitData) (parts : List (Option ℕ)) (states state part : ℕ)
    → AreSecondParts (take i splits) parts → length parts ≡ states → i < length splits → next ≡ get_or splits i next → state ≡ next.state
    → All (λ (s : SplitData). s.state < states) splits → part ≡ states + i → AreSecondParts (take (i + 1) splits) (set parts state (Some part))
second_more splits i next parts states state part known size low there at inside number =
    let first = take i splits in
    let taken : take (i + 1) splits ≡ first ++ next ∷ [] = take_more splits i next low ∙ ap (λ (s : SplitData). first ++ s ∷ []) (sym there) in
    let count : length first ≡ i = length-take-le i splits (omega (arith, low)) in
    let fits : next.state < states = subst (λ (s : SplitData). s.state < states) (sym there) (inside i next low) in
    subst (λ (ss : List SplitData). AreSecondParts ss (set parts state (Some part))) (sym taken)
    (subst (λ k. AreSecondParts (first ++ next ∷ []) (set parts k (Some part))) (sym at)
    (second_push first next parts part known (omega (arith, fits, size)) (omega (arith, number, size, count))))

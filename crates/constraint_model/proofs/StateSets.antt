-- Sets of a graph's states: where one more edge leads, and where a walk with one more symbol can end.
use Rattle.std.proofs.Common.{◌≡◌, ◌↔◌, ℕ, ◌+◌, ◌<◌, List, [], ◌∷◌, ◌++◌, length, get_or, take, set, replicate, Bool, true, false, inl, inr, refl, ap, sym, ◌∙◌, subst, arith, ◌≤◌}
use Rattle.std.specs.Prelude.{All, IsTrue}
use Rattle.std.specs.List.{Contains, IsAnyAnswer}
use Rattle.std.specs.Cmp.{booleans_Decides}
use Rattle.std.proofs.lemmas.List.{get_or-replicate, length-replicate, length-set, get_or-set_same, get_or-set_other, take_more, take_all, get_or_default}
use Rattle.std.proofs.lemmas.List.Elements.{All-contains, Contains-append_left, Contains-push, Contains-push_cases, contains_decides}
use Rattle.std.proofs.lemmas.Bool.{cases_eq, cases_lt, both_ways}
use Rattle.std.proofs.Math.Bool.{beq}
use Rattle.std.proofs.Math.ListN.{get_or-eq_default}
use Rattle.symbol_base.specs.Walk.{IsWalk}
use Rattle.symbol_base.proofs.Walks.{walk-more, walk-last}
use Rattle.constraint_spec.specs.declared.GraphEdge.{GraphEdge}
use Rattle.constraint_spec.specs.Walk.{HasEdge, LabelsWalk}
use Rattle.constraint_model.specs.inside.StateSet.{IsMarked, JoinsBelow256, AreLed, AreEnds}

-- in the empty set no state is marked
none_marked : (n state : ℕ) → IsMarked (replicate n false) state → ⊥
none_marked n state marked = elim (cases_lt state n) [
  | inl below ↦ both_ways _ (get_or-replicate n state false false below) marked
  | inr above ↦ both_ways _ (get_or-eq_default (replicate n false) false {n = state} (omega (arith, length-replicate n false))) marked
]

-- in the set of all states below 256 each of them is
all_marked : (state : ℕ) → state < 256 → IsMarked (replicate 256 true) state
all_marked state below = get_or-replicate 256 state true false below

-- with one more mark the new state is marked
mark_here : (marks : List Bool) (added state : ℕ) → added < length marks → state ≡ added → IsMarked (set marks added true) state
mark_here marks added state inside same =
    subst (λ s. IsMarked (set marks added true) s) (sym same) (get_or-set_same marks added true false inside)

-- with one more mark those before it stay
mark_kept : (marks : List Bool) (added state : ℕ) → added < length marks → IsMarked marks state → IsMarked (set marks added true) state
mark_kept marks added state inside marked = elim (cases_eq state added) [
  | inl same ↦ mark_here marks added state inside same
  | inr other ↦ get_or-set_other marks added state true false other ∙ marked
]

-- a state below the size of the set is marked whatever stands past the end
at_default : (marks : List Bool) (state : ℕ) (d : Bool) → state < length marks → IsMarked marks state → get_or marks state d ≡ true
at_default marks state d inside marked = get_or_default marks state d false inside ∙ marked

-- where there is no edge, none leads anywhere
pub led_by_none : (from : List Bool) (label : ℕ) → AreLed [] from label (replicate 256 false)
led_by_none from label = record {
  size = length-replicate 256 false;
  marks = λ target. ((λ marked. absurd (none_marked 256 target marked)), (λ led. absurd (omega (arith, led.2.1))));
}

-- one more edge that leads from the set adds its target
led_more :
    (edges : List GraphEdge) (e : GraphEdge) (from to : List Bool) (label : ℕ) → AreLed edges from label to
    → e.to < 256 → e.label ≡ label → IsMarked from e.from → AreLed (edges ++ e ∷ []) from label (set to e.to true)
led_more edges e from to label led below labelled marked =
    let inside : e.to < length to = omega (arith, led.size) in
    record {
      size = length-set to e.to true ∙ led.size;
      marks = λ target. (
        λ now. elim (cases_eq target e.to) [
          | inl same ↦ (
            e.from,
            marked,
            subst (λ l. Contains (edges ++ e ∷ []) (record { from = e.from; label = l; to = target })) labelled
                (subst (λ t. Contains (edges ++ e ∷ []) (record { from = e.from; label = e.label; to = t })) (sym same)
                (Contains-push edges e)),
          )
          | inr other ↦ (let before = (led.marks target).0 (sym (get_or-set_other to e.to target true false other) ∙ now) in
              (before.0, before.1, Contains-append_left edges (e ∷ []) _ before.2))
        ],
        λ way. elim (Contains-push_cases edges e _ way.2) [
          | inl before ↦ mark_kept to e.to target inside ((led.marks target).1 (way.0, way.1, before))
          | inr here ↦ mark_here to e.to target inside (ap (λ (e : GraphEdge). e.to) (sym here))
        ],
      );
    }

-- one more edge that doesn't adds none
led_passed :
    (edges : List GraphEdge) (e : GraphEdge) (from to : List Bool) (label : ℕ) → AreLed edges from label to
    → (e.label ≡ label → IsMarked from e.from → ⊥) → AreLed (edges ++ e ∷ []) from label to
led_passed edges e from to label led passed = record {
  size = led.size;
  marks = λ target. (
    λ now. let before = (led.marks target).0 now in (before.0, before.1, Contains-append_left edges (e ∷ []) _ before.2),
    λ way. elim (Contains-push_cases edges e _ way.2) [
      | inl before ↦ (led.marks target).1 (way.0, way.1, before)
      | inr here ↦ absurd (passed (ap (λ (e : GraphEdge). e.label) here)
          (subst (λ s. IsMarked from s) (sym (ap (λ (e : GraphEdge). e.from) here)) way.1))
    ],
  );
}

-- the next edge of a list, where it leads from the set
pub led_by_next :
    (edges : List GraphEdge) (i : ℕ) (e : GraphEdge) (from to : List Bool) (label : ℕ) → i < length edges
    → AreLed (take i edges) from label to → (get_or edges i e).to < 256 → (get_or edges i e).label ≡ label
    → IsMarked from (get_or edges i e).from → AreLed (take (i + 1) edges) from label (set to (get_or edges i e).to true)
led_by_next edges i e from to label inside led below labelled marked =
    let next = get_or edges i e in
    subst (λ es. AreLed es from label (set to next.to true)) (sym (take_more edges i e inside))
    (led_more (take i edges) next from to label led below labelled marked)

-- and where it doesn't
pub led_past_next :
    (edges : List GraphEdge) (i : ℕ) (e : GraphEdge) (from to : List Bool) (label : ℕ) → i < length edges
    → AreLed (take i edges) from label to
    → ((get_or edges i e).label ≡ label → IsMarked from (get_or edges i e).from → ⊥)
    → AreLed (take (i + 1) edges) from label to
led_past_next edges i e from to label inside led passed =
    subst (λ es. AreLed es from label to) (sym (take_more edges i e inside))
    (led_passed (take i edges) (get_or edges i e) from to label led passed)

-- the walk with no labels can end at each state
pub ends_of_nothing : (edges : List GraphEdge) → AreEnds edges [] (replicate 256 true)
ends_of_nothing edges = record {
  size = length-replicate 256 true;
  marks = λ state below. ((λ marked. (state, refl)), (λ walk. all_marked state below));
}

-- each listed edge joins states below 256
joined_below : (edges : List GraphEdge) (from label to : ℕ) → All JoinsBelow256 edges → HasEdge edges from label to → (from < 256) × (to < 256)
joined_below edges from label to below edge = All-contains JoinsBelow256 edges _ below edge

ends_more :
    (edges : List GraphEdge) (word : List ℕ) (symbol : ℕ) (ends next : List Bool) → All JoinsBelow256 edges
    → AreEnds edges word ends → AreLed edges ends symbol next → AreEnds edges (word ++ symbol ∷ []) next
ends_more edges word symbol ends next below before led = record {
  size = led.size;
  marks = λ state inside. (
    λ marked.
        let way = (led.marks state).0 marked in
        let walk = (before.marks way.0 (joined_below edges way.0 symbol state below way.2).0).0 way.1 in
        (walk.0, walk-more (HasEdge edges) word symbol walk.0 way.0 state walk.1 way.2),
    λ walk.
        let last = walk-last (HasEdge edges) word symbol walk.0 state walk.1 in
        let marked = (before.marks last.0 (joined_below edges last.0 symbol state below last.2).0).1 (walk.0, last.1) in
        (led.marks state).1 (last.0, marked, last.2),
  );
}

-- the walk with the next symbol of a word can end where an edge with it leads
pub ends_by_next :
    (edges : List GraphEdge) (word : List ℕ) (i : ℕ) (ends next : List Bool) → All JoinsBelow256 edges → i < length word
    → AreEnds edges (take i word) ends → AreLed edges ends (get_or word i 0) next → AreEnds edges (take (i + 1) word) next
ends_by_next edges word i ends next below inside before led =
    subst (λ w. AreEnds edges w next) (sym (take_more word i 0 inside)) (ends_more edges (take i word) (get_or word i 0) ends next below before led)

-- a walk from a state below 256 ends at one
end_below :
    (edges : List GraphEdge) (from : ℕ) (word : List ℕ) (to : ℕ) → All JoinsBelow256 edges → from < 256
    → IsWalk (HasEdge edges) from word to → to < 256
end_below edges from [] to below inside walk = subst (λ s. s < 256) walk inside
end_below edges from (symbol ∷ word) to below inside walk =
    end_below edges walk.0 word to below (joined_below edges from symbol walk.0 below walk.1).1 walk.2

-- a walk with the labels of a word ends at a state below 256, or another one does
end_of :
    (edges : List GraphEdge) (word : List ℕ) → All JoinsBelow256 edges → LabelsWalk edges word
    → (from : ℕ) × (to : ℕ) × IsWalk (HasEdge edges) from word to × (to < 256)
end_of edges [] below walk = (0, 0, refl, omega arith)
end_of edges (symbol ∷ word) below walk =
    let first = joined_below edges walk.0 symbol walk.2.0 below walk.2.1 in
    (walk.0, walk.1, walk.2, end_below edges walk.2.0 word walk.1 below first.1 walk.2.2)

-- some state is marked exactly where the word labels a walk
pub marked_by_walk :
    (edges : List GraphEdge) (word : List ℕ) (ends : List Bool) → All JoinsBelow256 edges → AreEnds edges word ends
    → ((state : ℕ) × (state < 256) × IsMarked ends state) ↔ LabelsWalk edges word
marked_by_walk edges word ends below known = (
  λ some. let walk = (known.marks some.0 some.1).0 some.2 in (walk.0, some.0, walk.1),
  λ walk. let end = end_of edges word below walk in (end.1, end.3, (known.marks end.1 end.3).1 (end.0, end.2)),
)

-- the test for a mark among the ends of a whole word tells whether the word labels a walk
pub walk_by_marks :
    (edges : List GraphEdge) (word : List ℕ) (i : ℕ) (ends : List Bool) (b : Bool) → All JoinsBelow256 edges
    → length word ≤ i → AreEnds edges (take i word) ends → IsAnyAnswer (λ mark same. beq mark true ≡ same) ends b
    → IsTrue b ↔ LabelsWalk edges word
walk_by_marks edges word i ends b below whole known tested =
    let marks = subst (λ w. AreEnds edges w ends) (take_all i word whole) known in
    let walks = marked_by_walk edges word ends below marks in
    let told = contains_decides beq booleans_Decides ends true b tested in (
      (λ yes. let found = told.0 yes in walks.0 (found.0, omega (arith, found.1, marks.size), found.2 false)),
      (λ walk.
          let some = walks.1 walk in
          told.1 (some.0, omega (arith, some.1, marks.size), λ d. at_default ends some.0 d (omega (arith, some.1, marks.size)) some.2)),
    )

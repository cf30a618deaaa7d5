-- The search goes on by one arc, begins a node and is done with a node.
use Rattle.std.proofs.Common.{◌≡◌, ℕ, ◌+◌, ◌<◌, ◌≤◌, inl, inr, ⊎_elim, List, [], ◌∷◌, ◌++◌, length, length-append, get_or, set, Bool, true, false, refl, ap, sym, ◌∙◌, subst, arith}
use Rattle.std.proofs.lemmas.List.{get_or_push}
use Rattle.std.proofs.lemmas.Bool.{cases_lt, cases_eq}
use Rattle.symbol_base.specs.Word.{IsBefore}
use Rattle.least_walks.specs.declared.Arc.{Arc}
use Rattle.least_walks.specs.declared.breadth_first.Found.{Found}
use Rattle.symbol_base.proofs.Walks.{walk-more}
use Rattle.least_walks.specs.Graph.{Graph, AreArcsOf, no_arc}
use Rattle.least_walks.specs.inside.Found.{IsFoundBy, Searched, Half, IsTaken, KeepsFront, nothing, node_at, walk_to}
use Rattle.least_walks.proofs.Order.{before_more, before_last, nil_before}
use Rattle.least_walks.proofs.Pushes.{walk_kept, node_kept, found_kept, IsNew, known_push}

-- the arc leads to a node that was found before
pub half_skip :
    (g : Graph) (start : ℕ) (arcs : List Arc) (found : List Found) (marks : List Bool) (at k : ℕ)
    → Half g start arcs found marks at k → k < length arcs → get_or marks (get_or arcs k no_arc).to false ≡ true
    → Half g start arcs found marks at (k + 1)
half_skip g start arcs found marks at k half below marked =
    let old = half.known.marked (get_or arcs k no_arc).to marked in
    let walks = half.walks in
    record {
      walks = walks;
      known = half.known;
      closed = half.closed;
      here = half.here;
      are = half.are;
      part =
          λ m less inside.
          ⊎_elim
          (λ (before : m < k). half.part m before inside)
          (λ (last : k ≤ m).
          let is : k ≡ m = omega arith in
          subst
          (λ m. IsFoundBy found walks (get_or arcs m no_arc).to (walk_to walks at ++ (get_or arcs m no_arc).label ∷ []))
          is (old.0, old.1, old.2, old.3, inr (half.ahead old.0 k old.2 (omega arith) below)))
          (cases_lt m k);
      ahead = λ j m found less inside. half.ahead j m found (omega (arith, less)) inside;
    }

-- the arc leads to a node that is new
pub half_push :
    (g : Graph) (start : ℕ) (arcs : List Arc) (found : List Found) (marks : List Bool) (at k : ℕ) (e : Found)
    → Half g start arcs found marks at k → k < length arcs
    → get_or marks (get_or arcs k no_arc).to false ≡ false
    → e ≡ record { node = (get_or arcs k no_arc).to; from = at; label = (get_or arcs k no_arc).label }
    → Half g start arcs (found ++ e ∷ []) (set marks (get_or arcs k no_arc).to true) at (k + 1)
half_push g start arcs found marks at k e half below fresh e_is =
    let a : Arc = get_or arcs k no_arc in
    let walks : List (List ℕ) = half.walks in
    let w : List ℕ = walk_to walks at ++ a.label ∷ [] in
    let new : Found = record { node = a.to; from = at; label = a.label } in
    let same : length walks ≡ length found = half.known.count in
    let here : at < length found = half.here in
    let longer : length (found ++ new ∷ []) ≡ length found + 1 = length-append found (new ∷ []) in
    let at_word : walk_to (walks ++ w ∷ []) at ≡ walk_to walks at = walk_kept walks w at (omega arith) in
    let is_new : IsNew g start found marks (at + 1) walks new w =
    record {
      back = here;
      early = omega arith;
      word = refl;
      walk =
          walk-more g.arc (walk_to walks at) a.label start (node_at found at) a.to (half.known.walk at here) (half.are.each k below);
      inside = half.are.inside k below;
      last = λ i less. half.ahead i k less (omega arith) below;
      fresh = fresh;
    } in
    let known = known_push g start found marks (at + 1) walks new w half.known is_new in
    let whole : Half g start arcs (found ++ new ∷ []) (set marks a.to true) at (k + 1) =
    record {
      walks = walks ++ w ∷ [];
      known = known;
      closed =
          λ i label v less arc.
          let old = half.closed i label v less (subst (λ u. g.arc u label v) (node_kept found new i (omega (arith, less))) arc) in
          subst (λ u. IsFoundBy (found ++ new ∷ []) (walks ++ w ∷ []) v (u ++ label ∷ []))
          (sym (walk_kept walks w i (omega (arith, less))))
          (found_kept found walks new w v (walk_to walks i ++ label ∷ []) same old);
      here = omega arith;
      are = subst (λ v. AreArcsOf g v arcs) (sym (node_kept found new at here)) half.are;
      part =
          λ m less inside.
          subst
          (λ u. IsFoundBy (found ++ new ∷ []) (walks ++ w ∷ []) (get_or arcs m no_arc).to (u ++ (get_or arcs m no_arc).label ∷ []))
          (sym at_word)
          (⊎_elim
          (λ (before : m < k). found_kept found walks new w (get_or arcs m no_arc).to (walk_to walks at ++ (get_or arcs m no_arc).label ∷ []) same (half.part m before inside))
          (λ (last : k ≤ m).
          let is : k ≡ m = omega arith in
          subst
          (λ m. IsFoundBy (found ++ new ∷ []) (walks ++ w ∷ []) (get_or arcs m no_arc).to (walk_to walks at ++ (get_or arcs m no_arc).label ∷ []))
          is (
            length found,
            half.known.some,
            omega arith,
            ap (λ (x : Found). x.node) (get_or_push found new nothing (length found) refl),
            inl (get_or_push walks w [] (length found) same),
          ))
          (cases_lt m k));
      ahead =
          λ j m found_j less inside.
          subst (λ u. IsBefore (walk_to (walks ++ w ∷ []) j) (u ++ (get_or arcs m no_arc).label ∷ [])) (sym at_word)
          (⊎_elim
          (λ (before : j < length found).
          subst (λ u. IsBefore u (walk_to walks at ++ (get_or arcs m no_arc).label ∷ []))
          (sym (walk_kept walks w j (omega arith))) (half.ahead j m before (omega (arith, less)) inside))
          (λ (last : length found ≤ j).
          let is : length walks ≡ j = omega (arith, found_j) in
          subst (λ u. IsBefore u (walk_to walks at ++ (get_or arcs m no_arc).label ∷ [])) (sym (get_or_push walks w [] j is))
          (before_last (walk_to walks at) a.label (get_or arcs m no_arc).label (half.are.ascending k m (omega (arith, less)) inside)))
          (cases_lt j (length found)));
    } in
    subst (λ e. Half g start arcs (found ++ e ∷ []) (set marks a.to true) at (k + 1)) (sym e_is) whole

-- no arc of the node at this place is done
pub half_start :
    (g : Graph) (start : ℕ) (arcs : List Arc) (found : List Found) (marks : List Bool) (at : ℕ)
    → Searched g start found marks at → at < length found → AreArcsOf g (node_at found at) arcs
    → Half g start arcs found marks at 0
half_start g start arcs found marks at searched here are =
    let walks : List (List ℕ) = searched.walks in
    let known = searched.known in
    record {
      walks = walks;
      known =
          record {
            chain = known.chain;
            count = known.count;
            some = known.some;
            sized = known.sized;
            counted = known.counted;
            walk = known.walk;
            inside = known.inside;
            early = λ i pos below. omega (arith, known.early i pos below);
            order = known.order;
            marked = known.marked;
          };
      closed = searched.closed;
      here = here;
      are = are;
      part = λ m less inside. absurd (omega (arith, less));
      ahead =
          λ j m below less inside.
          let label : ℕ = (get_or arcs m no_arc).label in
          ⊎_elim
          (λ (is_first : j ≡ 0).
          subst (λ u. IsBefore u (walk_to walks at ++ label ∷ []))
          (sym (subst (λ j. walk_to walks j ≡ []) (sym is_first) known.chain.first))
          (nil_before (walk_to walks at) label))
          (λ other.
          let pos : 0 < j = omega (arith, other) in
          let from : ℕ = (get_or found j nothing).from in
          subst (λ u. IsBefore u (walk_to walks at ++ label ∷ [])) (sym (known.chain.more j pos below))
          (before_more (walk_to walks from) (walk_to walks at) (get_or found j nothing).label label
          (known.order from at (known.early j pos below) here)))
          (cases_eq j 0);
    }

-- all arcs of the node at this place are done
pub half_end :
    (g : Graph) (start : ℕ) (arcs : List Arc) (found : List Found) (marks : List Bool) (at k : ℕ)
    → Half g start arcs found marks at k → k ≡ length arcs → Searched g start found marks (at + 1)
half_end g start arcs found marks at k half all =
    let walks : List (List ℕ) = half.walks in
    record {
      walks = walks;
      known = half.known;
      closed =
          λ i label v less arc.
          ⊎_elim
          (λ (before : i < at). half.closed i label v before arc)
          (λ (last : at ≤ i).
          let is : at ≡ i = omega (arith, less) in
          let mine : g.arc (node_at found at) label v = subst (λ i. g.arc (node_at found i) label v) (sym is) arc in
          let here : (m : ℕ) × (m < length arcs) × (get_or arcs m no_arc ≡ record { label = label; to = v }) = half.are.all label v mine in
          subst (λ i. IsFoundBy found walks v (walk_to walks i ++ label ∷ [])) is
          (subst (λ (a : Arc). IsFoundBy found walks a.to (walk_to walks at ++ a.label ∷ [])) here.2
          (half.part here.0 (omega (arith, here.1)) here.1)))
          (cases_lt i at);
    }

pub half_taken :
    (g : Graph) (start : ℕ) (arcs : List Arc) (found found' : List Found) (marks marks' : List Bool) (at k : ℕ) (arc : Arc)
    → Half g start arcs found marks at k → k < length arcs → arc ≡ get_or arcs k no_arc
    → IsTaken arc at found marks found' marks' → Half g start arcs found' marks' at (k + 1)
half_taken g start arcs found found' marks marks' at k arc half below is (inl old) =
    let marked : get_or marks (get_or arcs k no_arc).to false ≡ true = subst (λ (a : Arc). get_or marks a.to false ≡ true) is old.0 in
    subst (λ f. Half g start arcs f marks' at (k + 1)) (sym old.1)
    (subst (λ m. Half g start arcs found m at (k + 1)) (sym old.2) (half_skip g start arcs found marks at k half below marked))
half_taken g start arcs found found' marks marks' at k arc half below is (inr new) =
    let fresh : get_or marks (get_or arcs k no_arc).to false ≡ false = subst (λ (a : Arc). get_or marks a.to false ≡ false) is new.0 in
    let marks_is : marks' ≡ set marks (get_or arcs k no_arc).to true = subst (λ (a : Arc). marks' ≡ set marks a.to true) is new.2 in
    let e : Found = record { node = arc.to; from = at; label = arc.label } in
    subst (λ f. Half g start arcs f marks' at (k + 1)) (sym new.1)
    (subst (λ m. Half g start arcs (found ++ e ∷ []) m at (k + 1)) (sym marks_is)
    (half_push g start arcs found marks at k e half below fresh
    (ap (λ (a : Arc). record { node = a.to; from = at; label = a.label }) is)))

pub front_taken :
    (first found found' : List Found) (marks marks' : List Bool) (at : ℕ) (arc : Arc) → KeepsFront first found
    → IsTaken arc at found marks found' marks' → KeepsFront first found'
front_taken first found found' marks marks' at arc kept (inl old) = subst (λ f. KeepsFront first f) (sym old.1) kept
front_taken first found found' marks marks' at arc kept (inr new) =
    let e : Found = record { node = arc.to; from = at; label = arc.label } in
    subst (λ f. KeepsFront first f) (sym new.1)
    (λ i below.
    let there : i < length found = (kept i below).0 in
    (omega (arith, length-append found (e ∷ [])), node_kept found e i there ∙ (kept i below).1))

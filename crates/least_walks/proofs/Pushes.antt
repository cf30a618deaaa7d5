-- One more found node, with its word.
use Rattle.std.proofs.Common.{◌≡◌, ℕ, ◌+◌, ◌<◌, ◌≤◌, ⊎_elim, List, [], ◌∷◌, ◌++◌, length, length-append, get_or, set, Bool, true, false, cond, refl, ap, sym, ◌∙◌, subst, arith}
use Rattle.std.specs.List.{count_by}
use Rattle.std.proofs.lemmas.List.{get_or_append_left, get_or_push, get_or-set_other, length-set}
use Rattle.std.proofs.lemmas.List.Sums.{sum_by-set}
use Rattle.std.proofs.lemmas.Bool.{cases_lt, cases_eq}
use Rattle.symbol_base.specs.Word.{IsBefore}
use Rattle.least_walks.specs.declared.breadth_first.Found.{Found}
use Rattle.symbol_base.specs.Walk.{IsWalk}
use Rattle.least_walks.specs.Graph.{Graph}
use Rattle.least_walks.specs.LeastWalk.{IsAtMost}
use Rattle.least_walks.specs.inside.Found.{Known, IsFoundBy, nothing, node_at, walk_to}

-- what holds of each found node and its word, and of the new one, holds of all of them
pub each_push :
    (P : ℕ → Found → List ℕ → Type 0) (found : List Found) (walks : List (List ℕ)) (e : Found) (w : List ℕ)
    → length walks ≡ length found → ((i : ℕ) → i < length found → P i (get_or found i nothing) (walk_to walks i))
    → P (length found) e w → (i : ℕ) → i < length (found ++ e ∷ [])
    → P i (get_or (found ++ e ∷ []) i nothing) (walk_to (walks ++ w ∷ []) i)
each_push P found walks e w same old new i below =
    ⊎_elim
    (λ (before : i < length found).
    subst (λ x. P i x (walk_to (walks ++ w ∷ []) i)) (sym (get_or_append_left found (e ∷ []) nothing i before))
    (subst (λ y. P i (get_or found i nothing) y) (sym (get_or_append_left walks (w ∷ []) [] i (omega arith))) (old i before)))
    (λ (last : length found ≤ i).
    let is : length found ≡ i = omega (arith, length-append found (e ∷ [])) in
    subst (λ x. P i x (walk_to (walks ++ w ∷ []) i)) (sym (get_or_push found e nothing i is))
    (subst (λ y. P i e y) (sym (get_or_push walks w [] i (same ∙ is))) (subst (λ n. P n e w) is new)))
    (cases_lt i (length found))

-- a word that was there stays
pub walk_kept :
    (walks : List (List ℕ)) (w : List ℕ) (i : ℕ) → i < length walks → walk_to (walks ++ w ∷ []) i ≡ walk_to walks i
walk_kept walks w i below = get_or_append_left walks (w ∷ []) [] i below

pub node_kept : (found : List Found) (e : Found) (i : ℕ) → i < length found → node_at (found ++ e ∷ []) i ≡ node_at found i
node_kept found e i below = ap (λ (x : Found). x.node) (get_or_append_left found (e ∷ []) nothing i below)

pub found_kept :
    (found : List Found) (walks : List (List ℕ)) (e : Found) (w : List ℕ) (v : ℕ) (labels : List ℕ)
    → length walks ≡ length found → IsFoundBy found walks v labels → IsFoundBy (found ++ e ∷ []) (walks ++ w ∷ []) v labels
found_kept found walks e w v labels same by = (
  by.0,
  by.1,
  omega (arith, by.2, length-append found (e ∷ [])),
  node_kept found e by.0 by.2 ∙ by.3,
  subst (λ u. IsAtMost u labels) (sym (walk_kept walks w by.0 (omega (arith, by.2)))) by.4,
)

pub record IsNew (g : Graph) (start : ℕ) (found : List Found) (marks : List Bool) (bound : ℕ) (walks : List (List ℕ)) (e : Found) (w : List ℕ) : Type 0 where
  pub back : e.from < length found
  pub early : e.from < bound
  pub word : w ≡ walk_to walks e.from ++ e.label ∷ []
  pub walk : IsWalk g.arc start w e.node
  pub inside : e.node < g.nodes
  pub last : (i : ℕ) → i < length found → IsBefore (walk_to walks i) w
  pub fresh : get_or marks e.node false ≡ false

pub one_more : (marks : List Bool) (v n : ℕ) → v < length marks → get_or marks v false ≡ false → count_by (λ b. b) marks ≡ n
    → count_by (λ b. b) (set marks v true) ≡ n + 1
one_more marks v n below fresh counted =
    let one : Bool → ℕ = λ b. cond b 1 0 in
    let changed = sum_by-set one marks v true false below in
    let gone : ◌≡◌ {A = ℕ} (one (get_or marks v false)) 0 = ap one fresh in
    omega (arith, changed, gone)

pub known_push :
    (g : Graph) (start : ℕ) (found : List Found) (marks : List Bool) (bound : ℕ) (walks : List (List ℕ)) (e : Found)
    (w : List ℕ) → Known g start found marks bound walks → IsNew g start found marks bound walks e w
    → Known g start (found ++ e ∷ []) (set marks e.node true) bound (walks ++ w ∷ [])
known_push g start found marks bound walks e w known new =
    let longer : length (found ++ e ∷ []) ≡ length found + 1 = length-append found (e ∷ []) in
    let same : length walks ≡ length found = known.count in
    let some : 0 < length found = known.some in
    let sized : length marks ≡ g.nodes = known.sized in
    record {
      chain =
          record {
            first = walk_kept walks w 0 (omega arith) ∙ known.chain.first;
            back =
                λ i pos below.
                each_push (λ i x y. 0 < i → x.from < i) found walks e w same
                (λ i below pos. known.chain.back i pos below) (λ pos. new.back) i below pos;
            more =
                λ i pos below.
                each_push (λ i x y. 0 < i → y ≡ walk_to (walks ++ w ∷ []) x.from ++ x.label ∷ []) found walks e w same
                (λ i below pos.
                known.chain.more i pos below
                ∙ ap (λ u. u ++ (get_or found i nothing).label ∷ [])
                (sym (walk_kept walks w (get_or found i nothing).from (omega (arith, known.chain.back i pos below)))))
                (λ pos. new.word ∙ ap (λ u. u ++ e.label ∷ []) (sym (walk_kept walks w e.from (omega (arith, new.back)))))
                i below pos;
          };
      count = length-append walks (w ∷ []) ∙ ap (λ n. n + 1) same ∙ sym longer;
      some = omega arith;
      sized = length-set marks e.node true ∙ sized;
      counted =
          omega (
            arith,
            longer,
            known.counted,
            one_more marks e.node (count_by (λ b. b) marks) (omega (arith, new.inside)) new.fresh refl,
          );
      walk = each_push (λ i x y. IsWalk g.arc start y x.node) found walks e w same known.walk new.walk;
      inside = each_push (λ i x y. x.node < g.nodes) found walks e w same known.inside new.inside;
      early =
          λ i pos below.
          each_push (λ i x y. 0 < i → x.from < bound) found walks e w same
          (λ i below pos. known.early i pos below) (λ pos. new.early) i below pos;
      order =
          λ i j less below.
          each_push (λ j x y. (i : ℕ) → i < j → IsBefore (walk_to (walks ++ w ∷ []) i) y) found walks e w same
          (λ j below i less.
          subst (λ u. IsBefore u (walk_to walks j)) (sym (walk_kept walks w i (omega (arith, less, below))))
          (known.order i j less below))
          (λ i less. subst (λ u. IsBefore u w) (sym (walk_kept walks w i (omega (arith, less)))) (new.last i less))
          j below i less;
      marked =
          λ v marked.
          ⊎_elim
          (λ (is : v ≡ e.node).
          (length found, some, omega arith, ap (λ (x : Found). x.node) (get_or_push found e nothing (length found) refl) ∙ sym is))
          (λ other.
          let old = known.marked v (sym (get_or-set_other marks e.node v true false other) ∙ marked) in
          (old.0, old.1, omega (arith, old.2), node_kept found e old.0 old.2 ∙ old.3))
          (cases_eq v e.node);
    }

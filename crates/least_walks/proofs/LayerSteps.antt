-- One layer after the other: which nodes have a walk of one arc more.
use Rattle.std.proofs.Common.{◌≡◌, ◌↔◌, ℕ, zero, suc, ◌+◌, ◌<◌, ◌≤◌, ⊎_elim, List, [], ◌∷◌, ◌++◌, length, get_or, set, Result, Ok, Err, IfOk, refl, ap, sym, ◌∙◌, subst, arith, length-append}
use Rattle.std.proofs.lemmas.Bool.{cases_lt, cases_eq}
use Rattle.std.proofs.lemmas.List.{get_or_append_left, get_or_push, get_or-set_same, get_or-set_other, length-set, get_or_default}
use Rattle.least_walks.specs.declared.pair_graph.Arcs.{Arcs}
use Rattle.least_walks.specs.declared.pair_graph.Arcs.TheVariants as arcs_are
use Rattle.least_walks.specs.Graph.{Graph}
use Rattle.least_walks.specs.UnlikeWalk.{HasUnlikeWords}
use Rattle.least_walks.specs.NodeSet.{IsIn}
use Rattle.least_walks.specs.PairGraph.{IsMeant, IsTarget, LeadsInto}
use Rattle.least_walks.specs.inside.Layers.{IsUnlikeFromEnd, HasUnlikeWalk, IsLayer, AreLayers, IsPreceding}

-- what the arcs before walks of so many arcs have to meet
abbrev pub AreBefore : Arcs → ℕ → ℕ → ℕ → Type 0
AreBefore arcs words ahead left = (label : ℕ) → IsMeant arcs words label ↔ (left ≡ ahead → HasUnlikeWords words label)

-- a node that leads into the layer has a walk
pub leads_walk :
    (g : Graph) (words ahead left v : ℕ) (arcs : Arcs) (layer : List ℕ)
    → IsLayer g words ahead left layer → AreBefore arcs words ahead left → LeadsInto g words arcs v layer
    → HasUnlikeWalk g words ahead (left + 1) v
leads_walk g words ahead left v arcs layer is_layer before leads =
    let label : ℕ = leads.0 in
    let u : ℕ = leads.1 in
    let rest = is_layer.has u (is_layer.inside u (v, label, leads.2)) leads.4 in
    let count : length rest.0 ≡ left = rest.1 in (
      label ∷ rest.0,
      omega (arith, count),
      (u, leads.2, (λ e. (before label).0 leads.3 (sym count ∙ e)), rest.2),
    )

-- a node with a walk leads into the layer
pub walk_leads :
    (g : Graph) (words ahead left v : ℕ) (arcs : Arcs) (layer labels : List ℕ)
    → IsLayer g words ahead left layer → AreBefore arcs words ahead left → length labels ≡ left + 1
    → IsUnlikeFromEnd g words ahead v labels → LeadsInto g words arcs v layer
walk_leads g words ahead left v arcs layer [] is_layer before count walk = absurd (omega (arith, count))
walk_leads g words ahead left v arcs layer (label ∷ labels) is_layer before count walk =
    let u : ℕ = walk.0 in
    let rest : length labels ≡ left = omega (arith, count) in
    let target : IsTarget g u = (v, label, walk.1) in (
      label,
      u,
      walk.1,
      (before label).1 (λ e. walk.2 (rest ∙ e)),
      is_layer.all u (is_layer.inside u target) target (labels, rest, walk.3),
    )

-- each front of a walk is a walk, where it is too short for the condition
front_of :
    (g : Graph) (words ahead v n : ℕ) (labels : List ℕ) → n ≤ ahead → n ≤ length labels
    → IsUnlikeFromEnd g words ahead v labels → HasUnlikeWalk g words ahead n v
front_of g words ahead v zero labels few long walk = ([], refl, tt)
front_of g words ahead v (suc n) [] few long walk = absurd (omega (arith, long))
front_of g words ahead v (suc n) (label ∷ labels) few long walk =
    let rest = front_of g words ahead walk.0 n labels (omega (arith, few)) (omega (arith, long)) walk.3 in
    let size : length rest.0 ≡ n = rest.1 in (
      label ∷ rest.0,
      omega (arith, size),
      (walk.0, walk.1, (λ e. absurd (omega (arith, e, size, few))), rest.2),
    )

-- the candidates that lead into a layer are the next one, where they hold all targets with a walk
pub layer_next :
    (g : Graph) (words ahead left : ℕ) (arcs : Arcs) (candidates layer next : List ℕ)
    → IsLayer g words ahead left layer → AreBefore arcs words ahead left
    → ((v : ℕ) → v < g.nodes → IsTarget g v → HasUnlikeWalk g words ahead (left + 1) v → IsIn candidates v)
    → IsPreceding g words arcs candidates layer g.nodes next → IsLayer g words ahead (left + 1) next
layer_next g words ahead left arcs candidates layer next is_layer before candidate found = record {
  inside = is_layer.inside;
  room = found.room;
  has = λ v below there. leads_walk g words ahead left v arcs layer is_layer before (found.has v there);
  all =
      λ v below target walk.
      found.all v below (candidate v below target walk)
      (walk_leads g words ahead left v arcs layer walk.0 is_layer before walk.1 walk.2);
}

-- the nodes of a layer without a condition are candidates for all later ones
pub layer_candidates :
    (g : Graph) (words ahead k left : ℕ) (layer : List ℕ) → k ≤ ahead → k ≤ left → IsLayer g words ahead k layer → (v : ℕ)
    → v < g.nodes → IsTarget g v → HasUnlikeWalk g words ahead (left + 1) v → IsIn layer v
layer_candidates g words ahead k left layer few most is_layer v below target walk =
    let count : length walk.0 ≡ left + 1 = walk.1 in
    is_layer.all v below target (front_of g words ahead v k walk.0 few (omega (arith, count, most)) walk.2)

-- before walks without a condition all arcs may stand
pub free_arcs : (words ahead left : ℕ) → left < ahead → AreBefore arcs_are.All words ahead left
free_arcs words ahead left less label = ((λ meant e. absurd (omega (arith, e, less))), (λ unlike. tt))

-- where two layers after each other are the same, so is the next one
pub layer_again :
    (g : Graph) (words ahead left : ℕ) (layer : List ℕ)
    → left + 2 ≤ ahead → IsLayer g words ahead left layer → IsLayer g words ahead (left + 1) layer
    → IsLayer g words ahead (left + 2) layer
layer_again g words ahead left layer few first second =
    let sum : left + 1 + 1 ≡ left + 2 = omega arith in
    record {
      inside = first.inside;
      room = first.room;
      has =
          λ v below there.
          let walk = second.has v below there in
          subst (λ n. HasUnlikeWalk g words ahead n v) sum
          (leads_walk g words ahead (left + 1) v arcs_are.All layer second (free_arcs words ahead (left + 1) (omega (arith, few)))
          (walk_leads g words ahead left v arcs_are.All layer walk.0 first (free_arcs words ahead left (omega (arith, few))) walk.1 walk.2));
      all =
          λ v below target walk.
          layer_candidates g words ahead (left + 1) (left + 1) layer (omega (arith, few)) (omega arith) second v below target
          (subst (λ n. HasUnlikeWalk g words ahead n v) (sym sum) walk);
    }

-- no node leads into an empty layer
pub none_into :
    (g : Graph) (words v : ℕ) (arcs : Arcs) (layer : List ℕ) → ((u : ℕ) → IsIn layer u → ⊥) → LeadsInto g words arcs v layer → ⊥
none_into g words v arcs layer none leads = none leads.1 leads.4

-- the first layer: every target has the walk of no arcs
pub layer_first :
    (g : Graph) (words ahead : ℕ) (targets : List ℕ) → ((v : ℕ) → IsTarget g v → v < g.nodes) → g.nodes ≤ length targets
    → ((v : ℕ) → IsTarget g v → IsIn targets v)
    → IsLayer g words ahead 0 targets
layer_first g words ahead targets inside room all = record {
  inside = inside;
  room = room;
  has = λ v below there. ([], refl, tt);
  all = λ v below target walk. all v target;
}

-- one layer more
pub layers_more :
    (g : Graph) (words ahead n : ℕ) (layers : List (List ℕ)) (layer : List ℕ) → AreLayers g words ahead n layers
    → IsLayer g words ahead n layer → AreLayers g words ahead (n + 1) (layers ++ layer ∷ [])
layers_more g words ahead n layers layer are is_layer =
    let count : length layers ≡ n = are.count in
    record {
      count = length-append layers (layer ∷ []) ∙ ap (λ n. n + 1) count;
      each =
          λ k below.
          ⊎_elim
          (λ (before : k < n).
          subst (IsLayer g words ahead k) (sym (get_or_append_left layers (layer ∷ []) [] k (omega (arith, count, before)))) (are.each k before))
          (λ (last : n ≤ k).
          let is : n ≡ k = omega (arith, below, last) in
          subst (IsLayer g words ahead k) (sym (get_or_push layers layer [] k (count ∙ is)))
          (subst (λ k. IsLayer g words ahead k layer) is is_layer))
          (cases_lt k n);
    }

-- no node is found where the set is empty
pub none_found :
    (g : Graph) (words : ℕ) (arcs : Arcs) (candidates layer set : List ℕ) (n : ℕ) → g.nodes ≤ length set → ((v : ℕ) → IsIn set v → ⊥)
    → ((v : ℕ) → v < n → IsIn candidates v → LeadsInto g words arcs v layer → ⊥)
    → IsPreceding g words arcs candidates layer n set
none_found g words arcs candidates layer set n room none leads = record {
  room = room;
  has = λ v there. absurd (none v there);
  all = λ v below candidate into. absurd (leads v below candidate into);
}

-- a node that leads into the layer is put into the set
pub found_more :
    (g : Graph) (words : ℕ) (arcs : Arcs) (candidates layer : List ℕ) (n : ℕ) (found : List ℕ) → n < g.nodes
    → IsPreceding g words arcs candidates layer n found → LeadsInto g words arcs n layer
    → IsPreceding g words arcs candidates layer (n + 1) (set found n 1)
found_more g words arcs candidates layer n found below known leads =
    let size : length (set found n 1) ≡ length found = length-set found n 1 in
    record {
      room = omega (arith, known.room, size);
      has =
          λ v there.
          ⊎_elim (λ (here : v ≡ n). subst (λ v. LeadsInto g words arcs v layer) (sym here) leads)
          (λ (other : v ≡ n → ⊥). known.has v (sym (get_or-set_other found n v 1 0 other) ∙ there))
          (cases_eq v n);
      all =
          λ v less candidate into.
          ⊎_elim
          (λ (here : v ≡ n). ap (λ k. get_or (set found n 1) k 0) here ∙ get_or-set_same found n 1 0 (omega (arith, below, known.room)))
          (λ (other : v ≡ n → ⊥).
          get_or-set_other found n v 1 0 other ∙ known.all v (omega (arith, less, other)) candidate into)
          (cases_eq v n);
    }

-- nodes that are no candidates, or don't lead into the layer, are passed over
pub found_past :
    (g : Graph) (words : ℕ) (arcs : Arcs) (candidates layer : List ℕ) (n m : ℕ) (found : List ℕ)
    → IsPreceding g words arcs candidates layer n found
    → ((v : ℕ) → n ≤ v → v < m → IsIn candidates v → LeadsInto g words arcs v layer → ⊥)
    → IsPreceding g words arcs candidates layer m found
found_past g words arcs candidates layer n m found known none = record {
  room = known.room;
  has = known.has;
  all =
      λ v less candidate into.
      ⊎_elim (λ (before : v < n). known.all v before candidate into)
      (λ (behind : n ≤ v). absurd (none v behind less candidate into))
      (cases_lt v n);
}

-- no walk begins where the layer behind it is empty
pub none_before :
    (g : Graph) (words ahead left v : ℕ) (layer labels : List ℕ) → IsLayer g words ahead left layer
    → ((u : ℕ) → IsIn layer u → ⊥) → length labels ≡ left + 1 → IsUnlikeFromEnd g words ahead v labels → ⊥
none_before g words ahead left v layer [] is_layer none count walk = omega (arith, count)
none_before g words ahead left v layer (label ∷ labels) is_layer none count walk =
    let target : IsTarget g walk.0 = (v, label, walk.1) in
    none walk.0 (is_layer.all walk.0 (is_layer.inside walk.0 target) target (labels, omega (arith, count), walk.3))

-- the layer at a place, as the program reads it
pub layer_at :
    (g : Graph) (words ahead n k : ℕ) (layers : List (List ℕ)) (layer : List ℕ) → AreLayers g words ahead n layers → k < n
    → layer ≡ get_or layers k layer → IsLayer g words ahead k layer
layer_at g words ahead n k layers layer are below is =
    let count : length layers ≡ n = are.count in
    subst (IsLayer g words ahead k) (sym (is ∙ get_or_default layers k layer [] (omega (arith, below, count)))) (are.each k below)

-- what follows of a call's answer
pub ok_told :
    {A E : Type 0} (P Q : A → Type 0) (answer : Result A E) → ((x : A) → P x → Q x) → IfOk answer P → IfOk answer Q
ok_told P Q (Ok x) told is = told x is
ok_told P Q (Err e) told is = is

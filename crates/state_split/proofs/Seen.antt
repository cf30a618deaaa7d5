-- The residues of sums of weights that have been seen.
use Rattle.std.proofs.Common.{◌≡◌, ℕ, ◌+◌, ◌%◌, ◌<◌, ◌≤◌, List, [], ◌∷◌, ◌++◌, length, get_or, set, take, replicate, inl, inr, ap, sym, ◌∙◌, subst, arith, Option, Some, None}
use Rattle.std.proofs.lemmas.Bool.{cases_lt, cases_eq}
use Rattle.std.proofs.lemmas.List.{take_more, get_or-map, length-map, get_or-set_same, get_or-set_other, get_or-replicate, get_or_past, length-set, length-replicate}
use Rattle.std.proofs.Math.Nat.{mod-add-mod, zero-mod}
use Rattle.label_graphs.specs.declared.graph.Edge.{Edge}
use Rattle.label_graphs.specs.Graph.{EdgeData}
use Rattle.label_graphs.specs.Views.{edge_data}
use Rattle.split_spec.specs.Run.{weight_of, AgreeAt}
use Rattle.split_spec.proofs.ResidueLaws.{agree_by, agreed}
use Rattle.split_spec.proofs.SumsBounded.{weight-cons, weight-append}
use Rattle.state_split.specs.Views.{edges_data}
use Rattle.state_split.specs.inside.Agreeing.{IsFirstAgreeing, HasSeen, residue_of}

-- residues that all differ
pub none_agree : (n : ℕ) (x : List ℕ) (edges : List EdgeData) (count : ℕ) (seen : List (Option ℕ)) → HasSeen n x edges count seen
    → (i j : ℕ) → i < j → j ≤ count → AgreeAt n x edges i j → ⊥
none_agree n x edges count seen known i j order inside agree =
    let same = agreed n x edges i j agree in
    let one = known.listed i (omega (arith, order, inside)) in
    let other = known.listed j inside in
    let both : Some i ≡ Some j = sym one ∙ ap (λ r. get_or seen r None) same ∙ other in
    let equal : i ≡ j = cc in
    omega (arith, order, equal)

-- the first edges and one more
taken_more : (row : List (Edge ℕ)) (at : ℕ) (e : Edge ℕ) → at < length row → e ≡ get_or row at e
    → take (at + 1) (edges_data row) ≡ take at (edges_data row) ++ edge_data (λ name. name) e ∷ []
taken_more row at e low same =
    let f = edge_data (λ name. name) e in
    let read : get_or (edges_data row) at f ≡ f = get_or-map (edge_data (λ name. name)) row at e f low ∙ ap (edge_data (λ name. name)) (sym same) in
    take_more (edges_data row) at f (omega (arith, low, length-map row (edge_data (λ name. name)))) ∙ ap (λ (g : EdgeData). take at (edges_data row) ++ g ∷ []) read

weight_more : (x : List ℕ) (row : List (Edge ℕ)) (at : ℕ) (e : Edge ℕ) → at < length row → e ≡ get_or row at e
    → weight_of x (take (at + 1) (edges_data row)) ≡ weight_of x (take at (edges_data row)) + get_or x e.to 0
weight_more x row at e low same =
    let f = edge_data (λ name. name) e in
    let one = weight-cons x f [] in
    ap (weight_of x) (taken_more row at e low same) ∙ weight-append x (take at (edges_data row)) (f ∷ [])
    ∙ ap (λ w. weight_of x (take at (edges_data row)) + w) (omega (arith, one))

-- one edge more adds the weight of its target
pub residue_more : (n : ℕ) (x : List ℕ) (row : List (Edge ℕ)) (at w : ℕ) (e : Edge ℕ) (residue : ℕ) → at < length row → e ≡ get_or row at e
    → w ≡ get_or x e.to 0 → residue ≡ residue_of n x (edges_data row) at → (residue + w) % n ≡ residue_of n x (edges_data row) (at + 1)
residue_more n x row at w e residue low same is before =
    let sum = weight_of x (take at (edges_data row)) in
    ap (λ r. (r + w) % n) before ∙ mod-add-mod sum n w ∙ ap (λ v. (sum + v) % n) is ∙ ap (λ s. s % n) (sym (weight_more x row at e low same))

abbrev pub start : List (Option ℕ)
start = set (replicate 256 None) 0 (Some 0)

at_start : (r i : ℕ) → get_or start r None ≡ Some i → (r ≡ 0) × (i ≡ 0)
at_start r i there = elim (cases_eq r 0) [
  | inl here ↦ (here, (let both : Some 0 ≡ Some i = sym (get_or-set_same (replicate 256 None) 0 (Some 0) None (omega arith)) ∙ ap (λ k. get_or start k None) (sym here) ∙ there in cc))
  | inr other ↦ absurd (
      let none : get_or (replicate 256 None) r None ≡ Some i = sym (get_or-set_other (replicate 256 None) 0 r (Some 0) None other) ∙ there in
      elim (cases_lt r 256) [
        | inl low ↦ (let both : None ≡ Some i = sym (get_or-replicate 256 r None None low) ∙ none in cc)
        | inr high ↦ (let both : None ≡ Some i = sym (get_or_past (replicate 256 None) r None (omega (arith, high, length-replicate {A = Option ℕ} 256 None))) ∙ none in cc)
      ])
]

-- no sums have been seen but that of no edge
pub none_seen : (n : ℕ) (x : List ℕ) (edges : List EdgeData) → (0 ≡ residue_of n x edges 0) × HasSeen n x edges 0 start
none_seen n x edges =
    let nothing : residue_of n x edges 0 ≡ 0 = zero-mod n in (
      sym nothing,
      record {
        size = length-set {A = Option ℕ} (replicate 256 None) 0 (Some 0) ∙ length-replicate {A = Option ℕ} 256 None;
        listed = λ i low.
            let first : i ≡ 0 = omega (arith, low) in
            subst (λ k. get_or start (residue_of n x edges k) None ≡ Some k) (sym first)
            (ap (λ r. get_or start r None) nothing ∙ get_or-set_same (replicate 256 None) 0 (Some 0) None (omega arith));
        told = λ r i there.
            let both = at_start r i there in
            ((let first = both.1 in omega (arith, first)), ap (residue_of n x edges) both.1 ∙ nothing ∙ sym both.0);
      },
    )

-- a residue that has been seen is that of an earlier sum
pub seen_agrees : (n : ℕ) (x : List ℕ) (edges : List EdgeData) (count residue from : ℕ) (seen : List (Option ℕ)) → residue ≡ residue_of n x edges (count + 1)
    → count + 1 ≤ n → count + 1 ≤ length edges → get_or seen residue None ≡ Some from → HasSeen n x edges count seen → IsFirstAgreeing n x edges from (count + 1)
seen_agrees n x edges count residue from seen is early inside there known =
    let told = known.told residue from there in
    let low = told.0 in
    record {
      order = omega (arith, low);
      early = early;
      inside = inside;
      agree = agree_by n x edges from (count + 1) (omega (arith, low)) (told.1 ∙ is);
      first = λ i j order end. none_agree n x edges count seen known i j order (omega (arith, end));
    }

-- a new residue
pub one_more_seen : (n : ℕ) (x : List ℕ) (edges : List EdgeData) (count residue : ℕ) (seen : List (Option ℕ)) → residue ≡ residue_of n x edges (count + 1)
    → residue < 256 → ((from : ℕ) → get_or seen residue None ≡ Some from → ⊥) → HasSeen n x edges count seen
    → HasSeen n x edges (count + 1) (set seen residue (Some (count + 1)))
one_more_seen n x edges count residue seen is fits new known =
    let inside : residue < length seen = (let size = known.size in omega (arith, fits, size)) in
    let here = get_or-set_same seen residue (Some (count + 1)) None inside in
    record {
      size = length-set seen residue (Some (count + 1)) ∙ known.size;
      listed = λ i low. elim (cases_eq i (count + 1)) [
        | inl last ↦ subst (λ k. get_or (set seen residue (Some (count + 1))) (residue_of n x edges k) None ≡ Some k) (sym last)
            (ap (λ r. get_or (set seen residue (Some (count + 1))) r None) (sym is) ∙ here)
        | inr before ↦ (
            let old = known.listed i (omega (arith, low, before)) in
            get_or-set_other seen residue (residue_of n x edges i) (Some (count + 1)) None
            (λ same. new i (sym (ap (λ r. get_or seen r None) same) ∙ old)) ∙ old)
      ];
      told = λ r i there. elim (cases_eq r residue) [
        | inl same ↦ (
            let both : Some (count + 1) ≡ Some i = sym here ∙ ap (λ k. get_or (set seen residue (Some (count + 1))) k None) (sym same) ∙ there in
            let last : count + 1 ≡ i = cc in
            (omega (arith, last), ap (residue_of n x edges) (sym last) ∙ sym is ∙ sym same))
        | inr other ↦ (
            let old = known.told r i (sym (get_or-set_other seen residue r (Some (count + 1)) None other) ∙ there) in
            (let low = old.0 in omega (arith, low), old.1))
      ];
    }

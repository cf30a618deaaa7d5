-- A depth-first search goes on by one step, and ends.
use Rattle.std.proofs.Common.{◌≡◌, ◌≢◌, ℕ, zero, suc, ◌+◌, ◌*◌, ◌-◌, ◌<◌, ◌≤◌, ◌⊎◌, List, [], ◌∷◌, ◌++◌, length, length-append, get_or, set, Bool, true, false, Option, Some, None, cond, inl, inr, refl, ap, sym, ◌∙◌, subst, arith}
use Rattle.std.specs.Prelude.{unwrap_or}
use Rattle.std.specs.List.{count_by, sum_by}
use Rattle.std.proofs.lemmas.Bool.{cases_lt, cases_eq, true≢false}
use Rattle.std.proofs.lemmas.List.{get_or_append_left, get_or_push, get_or-set_same, get_or-set_other, length-set}
use Rattle.std.proofs.lemmas.List.Sums.{sum_by-set, sum_by-append, sum_by-cons}
use Rattle.std.proofs.lemmas.Option.{none-some}
use Rattle.symbol_base.specs.Walk.{IsWalk}
use Rattle.symbol_base.proofs.Walks.{walk-more}
use Rattle.min_cover.specs.declared.finishing.Mark.{Mark}
use Rattle.min_cover.specs.declared.finishing.Mark.TheVariants.{New, OnPath, Finished}
use Rattle.min_cover.specs.declared.finishing.Visit.{Visit}
use Rattle.min_cover.specs.inside.Pairs.{Leads, HasCycle}
use Rattle.min_cover.specs.inside.Finishing.{SearchData, joined, no_visit, mark_at, pair_at, next_at, number_at, visit_of, visited, closed, reached_by, ended, IsSearch, LinksTo, is_new, weight, IsOrder}

abbrev is_on_path : Mark → Bool
is_on_path New = false
is_on_path OnPath = true
is_on_path Finished = false

pub new≢path : ◌≡◌ {A = Mark} New OnPath → ⊥
new≢path same = true≢false (ap is_new same)

pub new≢finished : ◌≡◌ {A = Mark} New Finished → ⊥
new≢finished same = true≢false (ap is_new same)

pub path≢finished : ◌≡◌ {A = Mark} OnPath Finished → ⊥
path≢finished same = true≢false (ap is_on_path same)

value_of : (x y : ℕ) → ◌≡◌ {A = Option ℕ} (Some x) (Some y) → x ≡ y
value_of x y same = ap (λ o. unwrap_or o 0) same

module _ (step : ℕ → ℕ → Option ℕ) (count width : ℕ) where
  -- the symbols of a search are all followed
  pub all_due : (s : SearchData) → IsSearch step count width 0 s → IsSearch step count width 1 s
  all_due s is = record {
    marked = is.marked;
    placed = is.placed;
    on_path = is.on_path;
    within = is.within;
    different = is.different;
    listed = is.listed;
    done = is.done;
    counted = is.counted;
    chain = is.chain;
    followed = λ i symbol q i_in less due leads. is.followed i symbol q i_in less (λ last. omega (arith, less)) leads;
    led = is.led;
    cycle = is.cycle;
  }

  -- the path from a place of it to a later one is a walk
  path_walk : (s : SearchData) (due : ℕ) → IsSearch step count width due s → (i more : ℕ) → i + more < length s.path
      → (word : List ℕ) × IsWalk (Leads step) (pair_at s.path i) word (pair_at s.path (i + more))
  path_walk s due is i zero inside = ([], ap (λ j. pair_at s.path j) (omega arith))
  path_walk s due is i (suc more) inside =
      let rest = path_walk s due is i more (omega (arith, inside)) in
      let link = is.chain (i + more) (omega (arith, inside)) in
      let next : (i + more) + 1 ≡ i + suc more = omega arith in (
        rest.0 ++ link.0 ∷ [],
        walk-more (Leads step) rest.0 link.0 (pair_at s.path i) (pair_at s.path (i + more)) (pair_at s.path (i + suc more)) rest.1
            (subst (λ j. Leads step (pair_at s.path (i + more)) link.0 (pair_at s.path j)) next link.1),
      )

  -- an arc back to the path closes a cycle
  pub path_cycle : (s : SearchData) (due : ℕ) → IsSearch step count width due s → (q : ℕ) → mark_at s.marks q ≡ OnPath → LinksTo step s q
      → HasCycle step count
  path_cycle s due is q marked links =
      let at = is.listed q marked in
      let more = length s.path - 1 - at.0 in
      let last : (at.0 + more) + 1 ≡ length s.path = omega (arith, at.1) in
      let way = path_walk s due is at.0 more (omega (arith, last)) in
      let link = links (at.0 + more) last in
      let here = pair_at s.path at.0 in
      record {
        here = here;
        inside = (is.on_path at.0 at.1).0;
        back = (
          way.0 ++ link.0 ∷ [],
          omega (arith, length-append way.0 (link.0 ∷ [])),
          walk-more (Leads step) way.0 link.0 here (pair_at s.path (at.0 + more)) here way.1
              (subst (λ t. Leads step (pair_at s.path (at.0 + more)) link.0 t) (sym at.2) link.2),
        );
      }

  -- a symbol leads to the path
  pub search_closed : (s : SearchData) → IsSearch step count width 1 s → (q : ℕ) → mark_at s.marks q ≡ OnPath → LinksTo step s q
      → IsSearch step count width 0 (closed s)
  search_closed s is q marked links = record {
    marked = is.marked;
    placed = is.placed;
    on_path = is.on_path;
    within = is.within;
    different = is.different;
    listed = is.listed;
    done = is.done;
    counted = is.counted;
    chain = is.chain;
    followed = λ i symbol q i_in less due leads. inl refl;
    led = λ i symbol q i_in leads. inl refl;
    cycle = λ yes. path_cycle s 1 is q marked links;
  }

  -- the last symbol leads nowhere, or to what is finished
  pub search_followed : (s : SearchData) → IsSearch step count width 1 s
      → ((i symbol q : ℕ) → i + 1 ≡ length s.path → symbol + 1 ≡ next_at s.path i → Leads step (pair_at s.path i) symbol q → mark_at s.marks q ≡ Finished)
      → IsSearch step count width 0 s
  search_followed s is last = record {
    marked = is.marked;
    placed = is.placed;
    on_path = is.on_path;
    within = is.within;
    different = is.different;
    listed = is.listed;
    done = is.done;
    counted = is.counted;
    chain = is.chain;
    followed = λ i symbol q i_in less due leads. elim (cases_eq (i + 1) (length s.path)) [
      | inl end ↦ elim (cases_eq (symbol + 1) (next_at s.path i)) [
        | inl this ↦ inr (inl (last i symbol q end this leads))
        | inr other ↦ is.followed i symbol q i_in less (λ e. omega (arith, less, other)) leads
      ]
      | inr inner ↦ is.followed i symbol q i_in less (λ e. absurd (inner e)) leads
    ];
    led = is.led;
    cycle = is.cycle;
  }

  -- a new pair is found at the end of the path
  pub search_visited : (s : SearchData) → IsSearch step count width 1 s → (q : ℕ) → q < count → mark_at s.marks q ≡ New → LinksTo step s q
      → IsSearch step count width 0 (visited s q)
  search_visited s is q q_in new links =
      let len = length s.path in
      let path' = s.path ++ visit_of q 0 ∷ [] in
      let longer : length path' ≡ len + 1 = length-append s.path (visit_of q 0 ∷ []) in
      let marks' = set s.marks q OnPath in
      let q_marks : q < length s.marks = (let size = is.marked in omega (arith, size, q_in)) in
      let low : (i : ℕ) → i < len → get_or path' i no_visit ≡ get_or s.path i no_visit = λ i i_in. get_or_append_left s.path (visit_of q 0 ∷ []) no_visit i i_in in
      let end : (i : ℕ) → i ≡ len → get_or path' i no_visit ≡ visit_of q 0 = λ i last. get_or_push s.path (visit_of q 0) no_visit i (sym last) in
      let here : mark_at marks' q ≡ OnPath = get_or-set_same s.marks q OnPath New q_marks in
      let other : (p : ℕ) → p ≢ q → mark_at marks' p ≡ mark_at s.marks p = λ p differs. get_or-set_other s.marks q p OnPath New differs in
      let path_other : (p : ℕ) → mark_at s.marks p ≡ OnPath → p ≢ q = λ p on same. new≢path (sym new ∙ ap (λ r. mark_at s.marks r) (sym same) ∙ on) in
      let done_other : (p : ℕ) → mark_at s.marks p ≡ Finished → p ≢ q = λ p done same. new≢finished (sym new ∙ ap (λ r. mark_at s.marks r) (sym same) ∙ done) in
      let on' : (p : ℕ) → mark_at s.marks p ≡ OnPath → mark_at marks' p ≡ OnPath = λ p on. other p (path_other p on) ∙ on in
      let done' : (p : ℕ) → mark_at s.marks p ≡ Finished → mark_at marks' p ≡ Finished = λ p done. other p (done_other p done) ∙ done in
      let each : (P : Visit → Type 0) → ((i : ℕ) → i < len → P (get_or s.path i no_visit)) → P (visit_of q 0) → (i : ℕ) → i < length path' → P (get_or path' i no_visit) =
      λ P old this i i_in. elim (cases_lt i len) [
        | inl before ↦ subst P (sym (low i before)) (old i before)
        | inr after ↦ subst P (sym (end i (omega (arith, after, i_in, longer)))) this
      ] in
      record {
        marked = length-set s.marks q OnPath ∙ is.marked;
        placed = is.placed;
        on_path = each (λ v. (v.pair < count) × (mark_at marks' v.pair ≡ OnPath))
            (λ i i_in. let old = is.on_path i i_in in (old.0, on' (pair_at s.path i) old.1)) (q_in, here);
        within = each (λ v. v.next ≤ width) is.within (omega arith);
        different = λ i j less j_in same. elim (cases_lt j len) [
          | inl before ↦ (
              let i_low = low i (omega (arith, less, before)) in
              is.different i j less before (sym (ap (λ (v : Visit). v.pair) i_low) ∙ same ∙ ap (λ (v : Visit). v.pair) (low j before)))
          | inr after ↦ (
              let i_in : i < len = omega (arith, less, j_in, longer) in
              let i_low = low i i_in in
              let j_end = end j (omega (arith, after, j_in, longer)) in
              path_other (pair_at s.path i) (is.on_path i i_in).1 (sym (ap (λ (v : Visit). v.pair) i_low) ∙ same ∙ ap (λ (v : Visit). v.pair) j_end))
        ];
        listed = λ p on. elim (cases_eq p q) [
          | inl same ↦ (len, omega (arith, longer), ap (λ (v : Visit). v.pair) (end len refl) ∙ sym same)
          | inr differs ↦ (
              let old = is.listed p (sym (other p differs) ∙ on) in
              (old.0, omega (arith, old.1, longer), ap (λ (v : Visit). v.pair) (low old.0 old.1) ∙ old.2))
        ];
        done = λ i i_in. let old = is.done i i_in in (old.0, done' (number_at s.finished i) old.1, old.2);
        counted = λ p done. elim (cases_eq p q) [
          | inl same ↦ absurd (path≢finished (sym here ∙ ap (λ r. mark_at marks' r) (sym same) ∙ done))
          | inr differs ↦ is.counted p (sym (other p differs) ∙ done)
        ];
        chain = λ i i_in. elim (cases_lt (i + 1) len) [
          | inl before ↦ (
              let old = is.chain i before in (
                old.0,
                subst (λ (v : Visit). Leads step v.pair old.0 (pair_at path' (i + 1))) (sym (low i (omega (arith, before))))
                    (subst (λ (v : Visit). Leads step (pair_at s.path i) old.0 v.pair) (sym (low (i + 1) before)) old.1),
              ))
          | inr after ↦ (
              let last : i + 1 ≡ len = omega (arith, after, i_in, longer) in
              let link = links i last in (
                link.0,
                subst (λ (v : Visit). Leads step v.pair link.0 (pair_at path' (i + 1))) (sym (low i (omega (arith, last))))
                    (subst (λ (v : Visit). Leads step (pair_at s.path i) link.0 v.pair) (sym (end (i + 1) last)) link.2),
              ))
        ];
        followed = λ i symbol t i_in less due leads. elim (cases_lt i len) [
          | inl before ↦ (
              let less' : symbol < next_at s.path i = subst (λ (v : Visit). symbol < v.next) (low i before) less in
              let leads' : Leads step (pair_at s.path i) symbol t = subst (λ (v : Visit). Leads step v.pair symbol t) (low i before) leads in
              let last_or : (i + 1 ≡ len → symbol + 1 < next_at s.path i) → (s.cyclic ≡ true) ⊎ ((mark_at marks' t ≡ Finished) ⊎ ((i + 1 < length path') × (pair_at path' (i + 1) ≡ t))) =
              λ old_due. elim (is.followed i symbol t before less' old_due leads') [
                | inl cyclic ↦ inl cyclic
                | inr rest ↦ elim rest [
                  | inl done ↦ inr (inl (done' t done))
                  | inr next ↦ inr (inr (omega (arith, next.0, longer), ap (λ (v : Visit). v.pair) (low (i + 1) next.0) ∙ next.1))
                ]
              ] in
              elim (cases_eq (i + 1) len) [
                | inl last ↦ elim (cases_eq (symbol + 1) (next_at s.path i)) [
                  | inl this ↦ (
                      let link = links i last in
                      let symbols : link.0 ≡ symbol = omega (arith, this, link.1) in
                      let to : q ≡ t = value_of q t (sym link.2 ∙ ap (λ a. step (pair_at s.path i) a) symbols ∙ leads') in
                      inr (inr (omega (arith, last, longer), ap (λ (v : Visit). v.pair) (end (i + 1) last) ∙ to)))
                  | inr unlike ↦ last_or (λ e. omega (arith, less', unlike))
                ]
                | inr inner ↦ last_or (λ e. absurd (inner e))
              ])
          | inr after ↦ (
              let none : symbol < 0 = subst (λ (v : Visit). symbol < v.next) (end i (omega (arith, after, i_in, longer))) less in
              absurd (omega (arith, none)))
        ];
        led = λ i symbol t i_in leads. elim (is.led i symbol t i_in leads) [
          | inl cyclic ↦ inl cyclic
          | inr done ↦ inr (done' t done.0, done.1)
        ];
        cycle = is.cycle;
      }

  -- a pair whose symbols are all followed is finished
  pub search_ended : (s : SearchData) (visit : Visit) → IsSearch step count width 0 (joined s visit) → visit.next ≡ width
      → ((p symbol q : ℕ) → Leads step p symbol q → symbol < width) → IsSearch step count width 0 (ended s visit.pair)
  search_ended s visit is all below =
      let q = visit.pair in
      let len = length s.path in
      let path' = s.path ++ visit ∷ [] in
      let longer : length path' ≡ len + 1 = length-append s.path (visit ∷ []) in
      let low : (i : ℕ) → i < len → get_or path' i no_visit ≡ get_or s.path i no_visit = λ i i_in. get_or_append_left s.path (visit ∷ []) no_visit i i_in in
      let end : get_or path' len no_visit ≡ visit = get_or_push s.path visit no_visit len refl in
      let top = is.on_path len (omega (arith, longer)) in
      let q_in : q < count = subst (λ (v : Visit). v.pair < count) end top.0 in
      let on : mark_at s.marks q ≡ OnPath = subst (λ (v : Visit). mark_at s.marks v.pair ≡ OnPath) end top.1 in
      let marks' = set s.marks q Finished in
      let places' = set s.places q (length s.finished) in
      let finished' = s.finished ++ q ∷ [] in
      let more : length finished' ≡ length s.finished + 1 = length-append s.finished (q ∷ []) in
      let here : mark_at marks' q ≡ Finished = get_or-set_same s.marks q Finished New (let size = is.marked in omega (arith, size, q_in)) in
      let place : number_at places' q ≡ length s.finished = get_or-set_same s.places q (length s.finished) 0 (let size = is.placed in omega (arith, size, q_in)) in
      let other : (p : ℕ) → p ≢ q → mark_at marks' p ≡ mark_at s.marks p = λ p differs. get_or-set_other s.marks q p Finished New differs in
      let other_place : (p : ℕ) → p ≢ q → number_at places' p ≡ number_at s.places p = λ p differs. get_or-set_other s.places q p (length s.finished) 0 differs in
      let done_other : (p : ℕ) → mark_at s.marks p ≡ Finished → p ≢ q = λ p done same. path≢finished (sym on ∙ ap (λ r. mark_at s.marks r) (sym same) ∙ done) in
      let done' : (p : ℕ) → mark_at s.marks p ≡ Finished → mark_at marks' p ≡ Finished = λ p done. other p (done_other p done) ∙ done in
      let front : (i : ℕ) → i < length s.finished → number_at finished' i ≡ number_at s.finished i = λ i i_in. get_or_append_left s.finished (q ∷ []) 0 i i_in in
      let back : number_at finished' (length s.finished) ≡ q = get_or_push s.finished q 0 (length s.finished) refl in
      let path_other : (i : ℕ) → i < len → pair_at s.path i ≢ q = λ i i_in same.
      is.different i len i_in (omega (arith, longer)) (ap (λ (v : Visit). v.pair) (low i i_in) ∙ same ∙ sym (ap (λ (v : Visit). v.pair) end)) in
      record {
        marked = length-set s.marks q Finished ∙ is.marked;
        placed = length-set s.places q (length s.finished) ∙ is.placed;
        on_path = λ i i_in.
            let old = subst (λ (v : Visit). (v.pair < count) × (mark_at s.marks v.pair ≡ OnPath)) (low i i_in) (is.on_path i (omega (arith, i_in, longer))) in
            (old.0, other (pair_at s.path i) (path_other i i_in) ∙ old.1);
        within = λ i i_in. subst (λ (v : Visit). v.next ≤ width) (low i i_in) (is.within i (omega (arith, i_in, longer)));
        different = λ i j less j_in same.
            let i_in : i < len = omega (arith, less, j_in) in
            is.different i j less (omega (arith, j_in, longer)) (ap (λ (v : Visit). v.pair) (low i i_in) ∙ same ∙ sym (ap (λ (v : Visit). v.pair) (low j j_in)));
        listed = λ p marked. elim (cases_eq p q) [
          | inl same ↦ absurd (path≢finished (sym marked ∙ ap (λ r. mark_at marks' r) same ∙ here))
          | inr differs ↦ (
              let old = is.listed p (sym (other p differs) ∙ marked) in
              elim (cases_lt old.0 len) [
                | inl before ↦ (old.0, before, sym (ap (λ (v : Visit). v.pair) (low old.0 before)) ∙ old.2)
                | inr after ↦ (
                    let last : old.0 ≡ len = omega (arith, after, old.1, longer) in
                    absurd (differs (sym old.2 ∙ ap (λ i. pair_at path' i) last ∙ ap (λ (v : Visit). v.pair) end)))
              ])
        ];
        done = λ i i_in. elim (cases_lt i (length s.finished)) [
          | inl before ↦ (
              let old = is.done i before in
              let differs = done_other (number_at s.finished i) old.1 in
              subst (λ p. (p < count) × (mark_at marks' p ≡ Finished) × (number_at places' p ≡ i)) (sym (front i before))
              (old.0, done' (number_at s.finished i) old.1, other_place (number_at s.finished i) differs ∙ old.2))
          | inr after ↦ (
              let last : length s.finished ≡ i = omega (arith, after, i_in, more) in
              subst (λ i. (number_at finished' i < count) × (mark_at marks' (number_at finished' i) ≡ Finished) × (number_at places' (number_at finished' i) ≡ i)) last
              (subst (λ p. (p < count) × (mark_at marks' p ≡ Finished) × (number_at places' p ≡ length s.finished)) (sym back) (q_in, here, place)))
        ];
        counted = λ p marked. elim (cases_eq p q) [
          | inl same ↦ subst (λ p. (number_at places' p < length finished') × (number_at finished' (number_at places' p) ≡ p)) (sym same)
              (omega (arith, place, more), ap (λ i. number_at finished' i) place ∙ back)
          | inr differs ↦ (
              let old = is.counted p (sym (other p differs) ∙ marked) in
              subst (λ i. (i < length finished') × (number_at finished' i ≡ p)) (sym (other_place p differs))
              (omega (arith, old.0, more), front (number_at s.places p) old.0 ∙ old.1))
        ];
        chain = λ i i_in.
            let old = is.chain i (omega (arith, i_in, longer)) in (
              old.0,
              subst (λ (v : Visit). Leads step v.pair old.0 (pair_at s.path (i + 1))) (low i (omega (arith, i_in)))
                  (subst (λ (v : Visit). Leads step (pair_at path' i) old.0 v.pair) (low (i + 1) i_in) old.1),
            );
        followed = λ i symbol t i_in less due leads.
            let less' : symbol < next_at path' i = subst (λ (v : Visit). symbol < v.next) (sym (low i i_in)) less in
            let leads' : Leads step (pair_at path' i) symbol t = subst (λ (v : Visit). Leads step v.pair symbol t) (sym (low i i_in)) leads in
            elim (is.followed i symbol t (omega (arith, i_in, longer)) less' (λ e. omega (arith, less')) leads') [
              | inl cyclic ↦ inl cyclic
              | inr rest ↦ elim rest [
                | inl done ↦ inr (inl (done' t done))
                | inr next ↦ elim (cases_lt (i + 1) len) [
                  | inl before ↦ inr (inr (before, sym (ap (λ (v : Visit). v.pair) (low (i + 1) before)) ∙ next.1))
                  | inr after ↦ (
                      let last : i + 1 ≡ len = omega (arith, after, i_in) in
                      let this : t ≡ q = sym next.1 ∙ ap (λ j. pair_at path' j) last ∙ ap (λ (v : Visit). v.pair) end in
                      inr (inl (ap (λ p. mark_at marks' p) this ∙ here)))
                ]
              ]
            ];
        led = λ i symbol t i_in leads. elim (cases_lt i (length s.finished)) [
          | inl before ↦ elim (is.led i symbol t before (subst (λ p. Leads step p symbol t) (front i before) leads)) [
            | inl cyclic ↦ inl cyclic
            | inr done ↦ inr (done' t done.0, subst (λ n. n < i) (sym (other_place t (done_other t done.0))) done.1)
          ]
          | inr after ↦ (
              let last : i ≡ length s.finished = omega (arith, after, i_in, more) in
              let at : number_at finished' i ≡ q = ap (λ j. number_at finished' j) last ∙ back in
              let leads' : Leads step (pair_at path' len) symbol t = subst (λ p. Leads step p symbol t) (at ∙ sym (ap (λ (v : Visit). v.pair) end)) leads in
              let less : symbol < next_at path' len = subst (λ n. symbol < n) (sym (ap (λ (v : Visit). v.next) end ∙ all)) (below (number_at finished' i) symbol t leads) in
              elim (is.followed len symbol t (omega (arith, longer)) less (λ e. omega (arith, less)) leads') [
                | inl cyclic ↦ inl cyclic
                | inr rest ↦ elim rest [
                  | inl done ↦ (
                      let counted = is.counted t done in
                      inr (done' t done, subst (λ n. n < i) (sym (other_place t (done_other t done))) (omega (arith, counted.0, last))))
                  | inr next ↦ absurd (omega (arith, next.0, longer))
                ]
              ])
        ];
        cycle = is.cycle;
      }

  -- the next symbol is to be followed
  pub search_more : (s : SearchData) (visit : Visit) → IsSearch step count width 0 (joined s visit) → visit.next < width
      → IsSearch step count width 1 (joined s (visit_of visit.pair (visit.next + 1)))
  search_more s visit is fits =
      let len = length s.path in
      let new = visit_of visit.pair (visit.next + 1) in
      let old_path = s.path ++ visit ∷ [] in
      let new_path = s.path ++ new ∷ [] in
      let longer : length old_path ≡ len + 1 = length-append s.path (visit ∷ []) in
      let longer' : length new_path ≡ len + 1 = length-append s.path (new ∷ []) in
      let size : length new_path ≡ length old_path = longer' ∙ sym longer in
      let low : (i : ℕ) → i < len → get_or new_path i no_visit ≡ get_or old_path i no_visit =
      λ i i_in. get_or_append_left s.path (new ∷ []) no_visit i i_in ∙ sym (get_or_append_left s.path (visit ∷ []) no_visit i i_in) in
      let old_end : (i : ℕ) → i ≡ len → get_or old_path i no_visit ≡ visit = λ i last. get_or_push s.path visit no_visit i (sym last) in
      let new_end : (i : ℕ) → i ≡ len → get_or new_path i no_visit ≡ new = λ i last. get_or_push s.path new no_visit i (sym last) in
      let same : (i : ℕ) → i < length new_path → pair_at new_path i ≡ pair_at old_path i = λ i i_in. elim (cases_lt i len) [
        | inl before ↦ ap (λ (v : Visit). v.pair) (low i before)
        | inr after ↦ (
            let last : i ≡ len = omega (arith, after, i_in, longer') in
            ap (λ (v : Visit). v.pair) (new_end i last) ∙ sym (ap (λ (v : Visit). v.pair) (old_end i last)))
      ] in
      let old_in : (i : ℕ) → i < length new_path → i < length old_path = λ i i_in. omega (arith, i_in, size) in
      record {
        marked = is.marked;
        placed = is.placed;
        on_path = λ i i_in. subst (λ p. (p < count) × (mark_at s.marks p ≡ OnPath)) (sym (same i i_in)) (is.on_path i (old_in i i_in));
        within = λ i i_in. elim (cases_lt i len) [
          | inl before ↦ subst (λ (v : Visit). v.next ≤ width) (sym (low i before)) (is.within i (old_in i i_in))
          | inr after ↦ subst (λ (v : Visit). v.next ≤ width) (sym (new_end i (omega (arith, after, i_in, longer')))) (omega (arith, fits))
        ];
        different = λ i j less j_in alike.
            is.different i j less (old_in j j_in) (sym (same i (omega (arith, less, j_in))) ∙ alike ∙ same j j_in);
        listed = λ p marked. let old = is.listed p marked in
            let i_in : old.0 < length new_path = omega (arith, old.1, size) in (old.0, i_in, same old.0 i_in ∙ old.2);
        done = is.done;
        counted = is.counted;
        chain = λ i i_in.
            let old = is.chain i (old_in (i + 1) i_in) in (
              old.0,
              subst (λ p. Leads step p old.0 (pair_at new_path (i + 1))) (sym (same i (omega (arith, i_in))))
                  (subst (λ p. Leads step (pair_at old_path i) old.0 p) (sym (same (i + 1) i_in)) old.1),
            );
        followed = λ i symbol t i_in less due leads.
            let less' : symbol < next_at old_path i = elim (cases_lt i len) [
              | inl before ↦ subst (λ (v : Visit). symbol < v.next) (low i before) less
              | inr after ↦ (
                  let last : i ≡ len = omega (arith, after, i_in, longer') in
                  let most = due (omega (arith, last, longer')) in
                  let next : next_at new_path i ≡ visit.next + 1 = ap (λ (v : Visit). v.next) (new_end i last) in
                  subst (λ (v : Visit). symbol < v.next) (sym (old_end i last)) (omega (arith, most, next)))
            ] in
            elim (is.followed i symbol t (old_in i i_in) less' (λ e. omega (arith, less')) (subst (λ p. Leads step p symbol t) (same i i_in) leads)) [
              | inl cyclic ↦ inl cyclic
              | inr rest ↦ elim rest [
                | inl done ↦ inr (inl done)
                | inr next ↦ (
                    let next_in : i + 1 < length new_path = omega (arith, next.0, size) in
                    inr (inr (next_in, same (i + 1) next_in ∙ next.1)))
              ]
            ];
        led = is.led;
        cycle = is.cycle;
      }

  reached_as : (m : Mark) (s : SearchData) → IsSearch step count width 1 s → (q : ℕ) → q < count → mark_at s.marks q ≡ m → LinksTo step s q
      → IsSearch step count width 0 (reached_by m s q)
  reached_as New s is q q_in marked links = search_visited s is q q_in marked links
  reached_as OnPath s is q q_in marked links = search_closed s is q marked links
  reached_as Finished s is q q_in marked links = search_followed s is
      (λ i symbol t last this leads.
      let link = links i last in
      let symbols : link.0 ≡ symbol = omega (arith, this, link.1) in
      let to : q ≡ t = value_of q t (sym link.2 ∙ ap (λ a. step (pair_at s.path i) a) symbols ∙ leads) in
      ap (λ p. mark_at s.marks p) (sym to) ∙ marked)

  -- the symbol in hand leads to the pair
  pub search_reached : (s : SearchData) → IsSearch step count width 1 s → (q : ℕ) → q < count → LinksTo step s q
      → IsSearch step count width 0 (reached_by (mark_at s.marks q) s q)
  search_reached s is q q_in links = reached_as (mark_at s.marks q) s is q q_in refl links

  -- the end of the path is a pair, and its next symbol one of the alphabet or the first that isn't
  pub end_within : (s : SearchData) (visit : Visit) (due : ℕ) → IsSearch step count width due (joined s visit) → (visit.pair < count) × (visit.next ≤ width)
  end_within s visit due is =
      let len = length s.path in
      let inside : len < length (s.path ++ visit ∷ []) = omega (arith, length-append s.path (visit ∷ [])) in
      let end : get_or (s.path ++ visit ∷ []) len no_visit ≡ visit = get_or_push s.path visit no_visit len refl in
      (subst (λ (v : Visit). v.pair < count) end (is.on_path len inside).0, subst (λ (v : Visit). v.next ≤ width) end (is.within len inside))

  -- where the symbol of the path's end leads
  links_more : (s : SearchData) (visit : Visit) (q : ℕ) → Leads step visit.pair visit.next q → LinksTo step (joined s (visit_of visit.pair (visit.next + 1))) q
  links_more s visit q leads i last =
      let new = visit_of visit.pair (visit.next + 1) in
      let at : length s.path ≡ i = omega (arith, last, length-append s.path (new ∷ [])) in
      let end : get_or (s.path ++ new ∷ []) i no_visit ≡ new = get_or_push s.path new no_visit i at in
      (visit.next, sym (ap (λ (v : Visit). v.next) end), subst (λ (v : Visit). Leads step v.pair visit.next q) (sym end) leads)

  abbrev with_path : SearchData → List Visit → SearchData
  with_path s path = record { marks = s.marks; path = path; finished = s.finished; places = s.places; cyclic = s.cyclic }

  abbrev left : Visit → ℕ
  left visit = width + 1 - visit.next

  abbrev one : Mark → ℕ
  one mark = cond (is_new mark) 1 0

  path_weight : (path : List Visit) (visit : Visit) → sum_by left (path ++ visit ∷ []) ≡ sum_by left path + left visit
  path_weight path visit = let sum = sum_by-append left path (visit ∷ []) in let last = sum_by-cons left visit [] in omega (arith, sum, last)

  mark_weight : (marks : List Mark) (q : ℕ) (mark : Mark) → q < length marks → count_by is_new (set marks q mark) + one (mark_at marks q) ≡ count_by is_new marks + one mark
  mark_weight marks q mark inside = sum_by-set one marks q mark New inside

  reached_weighs : (m : Mark) (s : SearchData) (q : ℕ) → q < length s.marks → mark_at s.marks q ≡ m → weight width (reached_by m s q) ≤ weight width s
  reached_weighs New s q inside is =
      let path = path_weight s.path (visit_of q 0) in
      let marks = mark_weight s.marks q OnPath inside in
      let gone : one (mark_at s.marks q) ≡ 1 = ap one is in
      let less : count_by is_new (set s.marks q OnPath) + 1 ≡ count_by is_new s.marks = omega (arith, marks, gone) in
      subst (λ n. count_by is_new (set s.marks q OnPath) * (width + 2) + sum_by left (s.path ++ visit_of q 0 ∷ []) ≤ n * (width + 2) + sum_by left s.path) less
      (omega (arith, path))
  reached_weighs OnPath s q inside is = omega arith
  reached_weighs Finished s q inside is = omega arith

  pub ended_weighs : (s : SearchData) (visit : Visit) → visit.pair < length s.marks → mark_at s.marks visit.pair ≡ OnPath → visit.next ≡ width
      → weight width (ended s visit.pair) < weight width (joined s visit)
  ended_weighs s visit inside on all =
      let path = path_weight s.path visit in
      let marks = mark_weight s.marks visit.pair Finished inside in
      let gone : one (mark_at s.marks visit.pair) ≡ 0 = ap one on in
      let same : count_by is_new (set s.marks visit.pair Finished) ≡ count_by is_new s.marks = omega (arith, marks, gone) in
      subst (λ n. n * (width + 2) + sum_by left s.path < count_by is_new s.marks * (width + 2) + sum_by left (s.path ++ visit ∷ [])) (sym same)
      (omega (arith, path, all))

  more_weighs : (s : SearchData) (visit : Visit) → visit.next < width → weight width (joined s (visit_of visit.pair (visit.next + 1))) < weight width (joined s visit)
  more_weighs s visit fits =
      let path = path_weight s.path visit in
      let path' = path_weight s.path (visit_of visit.pair (visit.next + 1)) in
      omega (arith, path, path', fits)

  -- a finished pair
  pub follow_end : (s new : SearchData) (visit : Visit) → IsSearch step count width 0 (joined s visit) → visit.next ≡ width
      → ((p symbol q : ℕ) → Leads step p symbol q → symbol < width) → new ≡ ended s visit.pair
      → IsSearch step count width 0 new × (weight width new < weight width (joined s visit))
  follow_end s new visit is all below made =
      let len = length s.path in
      let within = end_within s visit 0 is in
      let end : get_or (s.path ++ visit ∷ []) len no_visit ≡ visit = get_or_push s.path visit no_visit len refl in
      let on : mark_at s.marks visit.pair ≡ OnPath =
      subst (λ (v : Visit). mark_at s.marks v.pair ≡ OnPath) end (is.on_path len (omega (arith, length-append s.path (visit ∷ [])))).1 in
      subst (λ (t : SearchData). IsSearch step count width 0 t × (weight width t < weight width (joined s visit))) (sym made)
      (search_ended s visit is all below, ended_weighs s visit (let size = is.marked in omega (arith, size, within.0)) on all)

  -- a symbol that leads to a pair
  pub follow_some : (s new : SearchData) (visit : Visit) (path : List Visit) (q : ℕ) → IsSearch step count width 0 (joined s visit) → (visit.next ≡ width → ⊥)
      → q < count → Leads step visit.pair visit.next q → path ≡ s.path ++ visit_of visit.pair (visit.next + 1) ∷ []
      → new ≡ reached_by (mark_at s.marks q) (with_path s path) q → IsSearch step count width 0 new × (weight width new < weight width (joined s visit))
  follow_some s new visit path q is more q_in leads path_is made =
      let fits : visit.next < width = (let within = end_within s visit 0 is in omega (arith, within.1, more)) in
      let t = joined s (visit_of visit.pair (visit.next + 1)) in
      let made' : new ≡ reached_by (mark_at s.marks q) t q = made ∙ ap (λ l. reached_by (mark_at s.marks q) (with_path s l) q) path_is in
      let weighs = reached_weighs (mark_at s.marks q) t q (let size = is.marked in omega (arith, size, q_in)) refl in
      let less = more_weighs s visit fits in
      subst (λ (t : SearchData). IsSearch step count width 0 t × (weight width t < weight width (joined s visit))) (sym made')
      (search_reached t (search_more s visit is fits) q q_in (links_more s visit q leads), omega (arith, weighs, less))

  -- a symbol that leads nowhere
  pub follow_none : (s : SearchData) (visit : Visit) (path : List Visit) → IsSearch step count width 0 (joined s visit) → (visit.next ≡ width → ⊥)
      → None ≡ step visit.pair visit.next → path ≡ s.path ++ visit_of visit.pair (visit.next + 1) ∷ []
      → IsSearch step count width 0 (with_path s path) × (weight width (with_path s path) < weight width (joined s visit))
  follow_none s visit path is more none path_is =
      let fits : visit.next < width = (let within = end_within s visit 0 is in omega (arith, within.1, more)) in
      let new = visit_of visit.pair (visit.next + 1) in
      let t = joined s new in
      subst (λ l. IsSearch step count width 0 (with_path s l) × (weight width (with_path s l) < weight width (joined s visit))) (sym path_is) (
        search_followed t (search_more s visit is fits)
            (λ i symbol q last this leads.
            let at : length s.path ≡ i = omega (arith, last, length-append s.path (new ∷ [])) in
            let end : get_or (s.path ++ new ∷ []) i no_visit ≡ new = get_or_push s.path new no_visit i at in
            let symbols : symbol ≡ visit.next = omega (arith, this, ap (λ (v : Visit). v.next) end) in
            absurd (none-some q (none ∙ ap (λ a. step visit.pair a) (sym symbols) ∙ subst (λ (v : Visit). Leads step v.pair symbol q) end leads))),
        more_weighs s visit fits,
      )

  finished_as : (s : SearchData) → IsSearch step count width 0 s → s.path ≡ [] → (p : ℕ) (m : Mark) → mark_at s.marks p ≡ m → m ≢ New → mark_at s.marks p ≡ Finished
  finished_as s is none p New mark known = absurd (known refl)
  finished_as s is none p OnPath mark known =
      let at = is.listed p mark in
      let empty : length s.path ≡ 0 = ap (λ (path : List Visit). length path) none in
      absurd (omega (arith, at.1, empty))
  finished_as s is none p Finished mark known = mark

  -- all pairs are finished
  pub search_done : (s : SearchData) → IsSearch step count width 0 s → s.path ≡ [] → ((p : ℕ) → p < count → mark_at s.marks p ≢ New)
      → IsOrder step count s.finished s.places s.cyclic
  search_done s is none known =
      let finished = λ (p : ℕ) (p_in : p < count). finished_as s is none p (mark_at s.marks p) refl (known p p_in) in
      record {
        placed = is.placed;
        listed = λ i i_in. let old = is.done i i_in in (old.0, old.2);
        counted = λ p p_in. is.counted p (finished p p_in);
        falls = λ falls p symbol q p_in leads.
            let at = is.counted p (finished p p_in) in
            elim (is.led (number_at s.places p) symbol q at.0 (subst (λ r. Leads step r symbol q) (sym at.1) leads)) [
              | inl cyclic ↦ absurd (true≢false (sym cyclic ∙ falls))
              | inr done ↦ done.1
            ];
        cycle = is.cycle;
      }

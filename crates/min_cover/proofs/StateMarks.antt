-- Sets of states as marks: one more state, one more edge, the marked states in order.
use Rattle.std.proofs.Common.{◌≡◌, ◌≢◌, ℕ, zero, suc, ◌+◌, ◌<◌, ◌≤◌, List, [], ◌∷◌, ◌++◌, length, get_or, take, set, replicate, filter, Bool, true, false, cond, inl, inr, refl, ap, sym, ◌∙◌, subst, arith, nat_eq, eq-eqb, ne_eqb, append-nil}
use Rattle.std.specs.Prelude.{◌&&◌, ◌||◌}
use Rattle.std.specs.List.{list_any, range_with_len}
use Rattle.std.proofs.lemmas.List.{map-id, get_or-replicate, length-replicate, length-set, get_or-set_same, get_or-set_other}
use Rattle.std.proofs.lemmas.List.Folds.{list_any_more}
use Rattle.std.proofs.lemmas.List.FromFn.{filter_of_map_range_with_len_more}
use Rattle.std.proofs.lemmas.Bool.{cases_eq, or_right, and_from, and_left, and_right}
use Rattle.constraint_spec.specs.declared.GraphEdge.{GraphEdge}
use Rattle.constraint_spec.specs.RawStateOf.{is_led}
use Rattle.min_cover.specs.inside.States.{Marks}

or_false : (b c : Bool) → c ≡ false → (b || c) ≡ b
or_false true c e = refl
or_false false c e = e

-- one more mark
marks_set :
    (test more : ℕ → Bool) (marks : List Bool) (added : ℕ) → Marks test marks → added < 256
    → ((state : ℕ) → state ≡ added → more state ≡ true) → ((state : ℕ) → state ≢ added → more state ≡ test state)
    → Marks more (set marks added true)
marks_set test more marks added known inside here other = record {
  size = length-set marks added true ∙ known.size;
  marked = λ state below. elim (cases_eq state added) [
    | inl same ↦ subst (λ s. get_or (set marks added true) s false ≡ more state) (sym same)
        (get_or-set_same marks added true false (omega (arith, inside, known.size)) ∙ sym (here state same))
    | inr differs ↦ get_or-set_other marks added state true false differs ∙ known.marked state below ∙ sym (other state differs)
  ];
}

-- the same marks under an equal test
marks_same : (test more : ℕ → Bool) (marks : List Bool) → Marks test marks → ((state : ℕ) → more state ≡ test state) → Marks more marks
marks_same test more marks known same = record {
  size = known.size;
  marked = λ state below. known.marked state below ∙ sym (same state);
}

-- the empty set
pub marks_none : Marks (λ state. false) (replicate 256 false)
marks_none = record { size = length-replicate 256 false; marked = λ state below. get_or-replicate 256 state false false below }

-- one more listed state
pub marks_listed :
    (states : List ℕ) (i : ℕ) (marks : List Bool) → i < length states → get_or states i 0 < 256
    → Marks (λ state. list_any (nat_eq state) (take i states)) marks
    → Marks (λ state. list_any (nat_eq state) (take (i + 1) states)) (set marks (get_or states i 0) true)
marks_listed states i marks inside below known =
    let added = get_or states i 0 in
    marks_set (λ state. list_any (nat_eq state) (take i states)) (λ state. list_any (nat_eq state) (take (i + 1) states)) marks added known below
    (λ state same. list_any_more (nat_eq state) states i 0 inside ∙ or_right (list_any (nat_eq state) (take i states)) (nat_eq state added) (eq-eqb state added same))
    (λ state differs. list_any_more (nat_eq state) states i 0 inside ∙ or_false (list_any (nat_eq state) (take i states)) (nat_eq state added) (ne_eqb state added differs))

-- an edge leads to a state with the symbol
abbrev leads : List ℕ → ℕ → ℕ → GraphEdge → Bool
leads from symbol state e = nat_eq e.label symbol && (nat_eq e.to state && list_any (nat_eq e.from) from)

-- one more edge that leads from the set
pub marks_led :
    (edges : List GraphEdge) (i : ℕ) (e : GraphEdge) (from : List ℕ) (symbol : ℕ) (marks : List Bool) → i < length edges
    → e ≡ get_or edges i e → e.to < 256 → e.label ≡ symbol → list_any (nat_eq e.from) from ≡ true
    → Marks (is_led (take i edges) from symbol) marks → Marks (is_led (take (i + 1) edges) from symbol) (set marks e.to true)
marks_led edges i e from symbol marks inside at below labelled marked known =
    marks_set (is_led (take i edges) from symbol) (is_led (take (i + 1) edges) from symbol) marks e.to known below
    (λ state same.
    let leads_on : leads from symbol state e ≡ true =
    and_from (nat_eq e.label symbol) (nat_eq e.to state && list_any (nat_eq e.from) from) (eq-eqb e.label symbol labelled)
    (and_from (nat_eq e.to state) (list_any (nat_eq e.from) from) (eq-eqb e.to state (sym same)) marked) in
    list_any_more (leads from symbol state) edges i e inside
    ∙ or_right (is_led (take i edges) from symbol state) (leads from symbol state (get_or edges i e))
    (ap (leads from symbol state) (sym at) ∙ leads_on))
    (λ state differs.
    let leads_off : leads from symbol state e ≡ false =
    and_right (nat_eq e.label symbol) (nat_eq e.to state && list_any (nat_eq e.from) from)
    (and_left (nat_eq e.to state) (list_any (nat_eq e.from) from) (ne_eqb e.to state (λ same. differs (sym same)))) in
    list_any_more (leads from symbol state) edges i e inside
    ∙ or_false (is_led (take i edges) from symbol state) (leads from symbol state (get_or edges i e))
    (ap (leads from symbol state) (sym at) ∙ leads_off))

-- one more edge that doesn't
pub marks_past :
    (edges : List GraphEdge) (i : ℕ) (e : GraphEdge) (from : List ℕ) (symbol : ℕ) (marks : List Bool) → i < length edges
    → e ≡ get_or edges i e → (e.label ≡ symbol → list_any (nat_eq e.from) from ≡ false)
    → Marks (is_led (take i edges) from symbol) marks → Marks (is_led (take (i + 1) edges) from symbol) marks
marks_past edges i e from symbol marks inside at unmarked known =
    marks_same (is_led (take i edges) from symbol) (is_led (take (i + 1) edges) from symbol) marks known
    (λ state.
    let leads_off : leads from symbol state e ≡ false = elim (cases_eq e.label symbol) [
      | inl labelled ↦ and_right (nat_eq e.label symbol) (nat_eq e.to state && list_any (nat_eq e.from) from)
          (and_right (nat_eq e.to state) (list_any (nat_eq e.from) from) (unmarked labelled))
      | inr other ↦ and_left (nat_eq e.label symbol) (nat_eq e.to state && list_any (nat_eq e.from) from) (ne_eqb e.label symbol other)
    ] in
    list_any_more (leads from symbol state) edges i e inside
    ∙ or_false (is_led (take i edges) from symbol state) (leads from symbol state (get_or edges i e))
    (ap (leads from symbol state) (sym at) ∙ leads_off))

-- one more state of a filter
pub filter_next : (test : ℕ → Bool) (n : ℕ) → filter test (range_with_len 0 (n + 1)) ≡ filter test (range_with_len 0 n) ++ cond (test n) (n ∷ []) []
filter_next test n =
    ap (filter test) (sym (map-id (range_with_len 0 (n + 1)))) ∙ filter_of_map_range_with_len_more test (λ x. x) 0 n n (omega arith)
    ∙ ap (λ xs. filter test xs ++ cond (test n) (n ∷ []) []) (map-id (range_with_len 0 n))

-- two tests that agree below 256 keep the same states
pub filter_marked : (test : ℕ → Bool) (marks : List Bool) (n : ℕ) → n ≤ 256 → Marks test marks
    → filter (λ state. get_or marks state false) (range_with_len 0 n) ≡ filter test (range_with_len 0 n)
filter_marked test marks n fits known = agree 0 n (omega arith)
  where
    kept : (a b : Bool) (x : ℕ) (xs ys : List ℕ) → a ≡ b → xs ≡ ys → cond a (x ∷ xs) xs ≡ cond b (x ∷ ys) ys
    kept a b x xs ys same rest = ap (λ c. cond c (x ∷ xs) xs) same ∙ ap (λ zs. cond b (x ∷ zs) zs) rest

    agree : (from count : ℕ) → from + count ≤ 256
        → filter (λ state. get_or marks state false) (range_with_len from count) ≡ filter test (range_with_len from count)
    agree from zero within = refl
    agree from (suc count) within =
        kept (get_or marks from false) (test from) from
        (filter (λ state. get_or marks state false) (range_with_len (from + 1) count)) (filter test (range_with_len (from + 1) count))
        (known.marked from (omega arith)) (agree (from + 1) count (omega arith))

-- one more state that passes, and one that doesn't
pub filter_taken : (test : ℕ → Bool) (n : ℕ) (kept more : List ℕ) → kept ≡ filter test (range_with_len 0 n) → test n ≡ true
    → more ≡ kept ++ n ∷ [] → more ≡ filter test (range_with_len 0 (n + 1))
filter_taken test n kept more same passes joined =
    joined ∙ ap (λ xs. xs ++ n ∷ []) same ∙ ap (λ b. filter test (range_with_len 0 n) ++ cond b (n ∷ []) []) (sym passes) ∙ sym (filter_next test n)

pub filter_left : (test : ℕ → Bool) (n : ℕ) (kept : List ℕ) → kept ≡ filter test (range_with_len 0 n) → test n ≡ false
    → kept ≡ filter test (range_with_len 0 (n + 1))
filter_left test n kept same fails =
    same ∙ sym (append-nil (filter test (range_with_len 0 n))) ∙ ap (λ b. filter test (range_with_len 0 n) ++ cond b (n ∷ []) []) (sym fails) ∙ sym (filter_next test n)

all_kept : (from count : ℕ) → filter (λ state. true) (range_with_len from count) ≡ range_with_len from count
all_kept from zero = refl
all_kept from (suc count) = ap (λ xs. from ∷ xs) (all_kept (from + 1) count)

-- all states are marked
pub filter_all : (n : ℕ) → n ≤ 256 → filter (λ state. get_or (replicate 256 true) state false) (range_with_len 0 n) ≡ range_with_len 0 n
filter_all n fits =
    filter_marked (λ state. true) (replicate 256 true) n fits
    (record { size = length-replicate 256 true; marked = λ state below. get_or-replicate 256 state true false below }) ∙ all_kept 0 n

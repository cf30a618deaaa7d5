-- The search with one more symbol, one more row, and at its end.
use Rattle.std.proofs.Common.{◌≡◌, ◌≢◌, ℕ, zero, suc, ◌+◌, ◌<◌, ◌≤◌, List, [], ◌∷◌, ◌++◌, length, map, get_or, Option, Some, None, cond, nat_eq, inl, inr, refl, ap, sym, ◌∙◌, subst, arith, length-append}
use Rattle.std.specs.Prelude.{Ok, Err, is_some, nat_lt, nat_le, not, ◌&&◌, ◌||◌}
use Rattle.std.specs.Option.{option_map}
use Rattle.std.specs.Global.{Vec}
use Rattle.std.proofs.lemmas.Bool.{eq-eqb, ne_eqb, le-ltb, and_left}
use Rattle.std.proofs.lemmas.List.{get_or_append_left}
use Rattle.std.proofs.Math.ListN.{get_or-eq_default}
use Rattle.constraint_spec.specs.Constraint.{ConstraintData}
use Rattle.constraint_spec.specs.Ranges.{IsConstraint}
use Rattle.constraint_spec.specs.RawState.{RawState, IsRawStateOf}
use Rattle.constraint_spec.specs.RawStateOf.{first_raw_state, is_below}
use Rattle.constraint_spec.proofs.RawStates.{raw_state_of_word}
use Rattle.min_cover.specs.declared.raw_states.StateKey.{StateKey}
use Rattle.min_cover.specs.declared.fault.CoverFault.{CoverFault}
use Rattle.min_cover.specs.declared.fault.CoverFault.TheVariants.{RawStates, CoverStates, NoMemory}
use Rattle.min_cover.specs.StateCounts.{HaveRawStates}
use Rattle.min_cover.specs.inside.Search.{IsSearching, IsDone}
use Rattle.min_cover.specs.inside.Raw.{step_raw}
use Rattle.min_cover.specs.inside.States.{raw_of}
use Rattle.min_cover.specs.inside.Found.{raw_at, next_in, IsFoundSoFar, IsAdded, Follows, NumbersRaw, IsSearchFault}
use Rattle.min_cover.proofs.SearchSteps.{search-known, search-grow, search-row, last_or_before}
use Rattle.min_cover.proofs.RawReading.{read-words, read-state}
use Rattle.min_cover.proofs.Numbering.{raw_at_key}
use Rattle.min_cover.proofs.KeySteps.{runs_stop}

-- the item pushed stands at the end
pub last_item : {X : Type 0} (xs : List X) (x d : X) → get_or (xs ++ x ∷ []) (length xs) d ≡ x
last_item [] x d = refl
last_item (y ∷ xs) x d = last_item xs x d

row_before : (rows : List (List (Option ℕ))) (row : List (Option ℕ)) (j s : ℕ) → j < length rows → next_in (rows ++ row ∷ []) j s ≡ next_in rows j s
row_before rows row j s inside = ap (λ (r : List (Option ℕ)). get_or r s None) (get_or_append_left rows (row ∷ []) [] j inside)

row_here : (rows : List (List (Option ℕ))) (row : List (Option ℕ)) (s : ℕ) → next_in (rows ++ row ∷ []) (length rows) s ≡ get_or row s None
row_here rows row s = ap (λ (r : List (Option ℕ)). get_or r s None) (last_item rows row [])

-- a row that grows keeps the places done
row_kept : (rows : List (List (Option ℕ))) (row : List (Option ℕ)) (next : Option ℕ) (j s : ℕ) → IsDone (length rows) (length row) j s
    → next_in (rows ++ (row ++ next ∷ []) ∷ []) j s ≡ next_in (rows ++ row ∷ []) j s
row_kept rows row next j s (inl before) = row_before rows (row ++ next ∷ []) j s before ∙ sym (row_before rows row j s before)
row_kept rows row next j s (inr here) =
    let more : next_in (rows ++ (row ++ next ∷ []) ∷ []) (length rows) s ≡ next_in (rows ++ row ∷ []) (length rows) s =
    row_here rows (row ++ next ∷ []) s ∙ get_or_append_left row (next ∷ []) None s here.1 ∙ sym (row_here rows row s) in
    subst (λ i. next_in (rows ++ (row ++ next ∷ []) ∷ []) i s ≡ next_in (rows ++ row ∷ []) i s) (sym here.0) more

row_new : (rows : List (List (Option ℕ))) (row : List (Option ℕ)) (next : Option ℕ)
    → next_in (rows ++ (row ++ next ∷ []) ∷ []) (length rows) (length row) ≡ next
row_new rows row next = row_here rows (row ++ next ∷ []) (length row) ∙ last_item row next None

-- one more key
raw_kept : (c : ConstraintData) (old : List StateKey) (key : StateKey) (i : ℕ) → i < length old → raw_at c (old ++ key ∷ []) i ≡ raw_at c old i
raw_kept c old key i inside =
    let longer : i < length (old ++ key ∷ []) = omega (arith, length-append old (key ∷ [])) in
    raw_at_key c (old ++ key ∷ []) i key longer ∙ ap raw_of (get_or_append_left old (key ∷ []) key i inside) ∙ sym (raw_at_key c old i key inside)

raw_new : (c : ConstraintData) (old : List StateKey) (key : StateKey) → raw_at c (old ++ key ∷ []) (length old) ≡ raw_of key
raw_new c old key =
    let longer : length old < length (old ++ key ∷ []) = omega (arith, length-append old (key ∷ [])) in
    raw_at_key c (old ++ key ∷ []) (length old) key longer ∙ ap raw_of (last_item old key key)

row_size : (row : List (Option ℕ)) (next : Option ℕ) → length (row ++ next ∷ []) ≡ length row + 1
row_size row next = length-append row (next ∷ [])

-- the search with a symbol that leads to no new raw state
so_far_known : (c : ConstraintData) (keys : List StateKey) (rows : List (List (Option ℕ))) (row : List (Option ℕ)) (next : Option ℕ)
    → IsFoundSoFar c keys rows row → length rows < length keys
    → step_raw c (raw_at c keys (length rows)) (length row) ≡ option_map (raw_at c keys) next
    → ((t : ℕ) → next ≡ Some t → t < length keys) → IsFoundSoFar c keys rows (row ++ next ∷ [])
so_far_known c keys rows row next found here goes inside =
    let more = next_in (rows ++ (row ++ next ∷ []) ∷ []) in
    let new = row_new rows row next in
    let known = search-known (step_raw c) (first_raw_state c) (next_in (rows ++ row ∷ [])) more (length keys) (raw_at c keys) found.word
    (length rows) (length row) here found.searching (row_kept rows row next)
    (goes ∙ ap (option_map (raw_at c keys)) (sym new)) (λ t e. inside t (sym new ∙ e)) in
    record {
      word = found.word;
      searching = subst (λ n. IsSearching (step_raw c) (first_raw_state c) more (length keys) (raw_at c keys) found.word (length rows) n)
          (sym (row_size row next)) known;
      different = found.different;
    }

-- with one that leads to a new one
so_far_added : (c : ConstraintData) (old : List StateKey) (key : StateKey) (rows : List (List (Option ℕ))) (row : List (Option ℕ))
    → IsFoundSoFar c old rows row → length rows < length old
    → step_raw c (raw_at c old (length rows)) (length row) ≡ Some (raw_of key)
    → ((i : ℕ) → i < length old → raw_at c old i ≢ raw_of key)
    → IsFoundSoFar c (old ++ key ∷ []) rows (row ++ Some (length old) ∷ [])
so_far_added c old key rows row found here goes other =
    let count = length old in
    let new = old ++ key ∷ [] in
    let next : Option ℕ = Some count in
    let more = next_in (rows ++ (row ++ next ∷ []) ∷ []) in
    let whole = found.word (length rows) ++ length row ∷ [] in
    let longer : ℕ → List ℕ = λ m. cond (nat_eq m count) whole (found.word m) in
    let kept_word : (m : ℕ) → m < count → longer m ≡ found.word m =
    λ m m_in. ap (λ b. cond b whole (found.word m)) (ne_eqb m count (λ same. omega (arith, same, m_in))) in
    let added_word : longer count ≡ whole = ap (λ b. cond b whole (found.word count)) (eq-eqb count count refl) in
    let size : length new ≡ count + 1 = length-append old (key ∷ []) in
    let grown = search-grow (step_raw c) (first_raw_state c) (next_in (rows ++ row ∷ [])) more count (raw_at c old) (raw_at c new)
    found.word longer (length rows) (length row) here found.searching (row_kept rows row next) (raw_kept c old key) kept_word added_word
    (goes ∙ ap Some (sym (raw_new c old key))) (row_new rows row next) in
    record {
      word = longer;
      searching = subst (λ n. IsSearching (step_raw c) (first_raw_state c) more (length new) (raw_at c new) longer (length rows) n) (sym (row_size row next))
          (subst (λ n. IsSearching (step_raw c) (first_raw_state c) more n (raw_at c new) longer (length rows) (length row + 1)) (sym size) grown);
      different = λ i j less inside. elim (last_or_before j count (omega (arith, inside, size))) [
        | inl low ↦ λ same. found.different i j less low (sym (raw_kept c old key i (omega (arith, less, low))) ∙ same ∙ raw_kept c old key j low)
        | inr at ↦ λ same. other i (omega (arith, less, at))
            (sym (raw_kept c old key i (omega (arith, less, at))) ∙ same ∙ ap (raw_at c new) at ∙ raw_new c old key)
      ];
    }

added_at : (c : ConstraintData) (old : List StateKey) (raw : RawState) (new : List StateKey) (rows : List (List (Option ℕ))) (row : List (Option ℕ))
    → IsFoundSoFar c old rows row → length rows < length old → step_raw c (raw_at c old (length rows)) (length row) ≡ Some raw
    → IsAdded c old raw new → IsFoundSoFar c new rows (row ++ Some (length old) ∷ [])
added_at c old raw new rows row found here goes added =
    subst (λ keys. IsFoundSoFar c keys rows (row ++ Some (length old) ∷ [])) (sym added.joined)
    (so_far_added c old added.key rows row found here (goes ∙ ap Some (sym added.seen))
    (λ i inside same. added.other i inside (same ∙ added.seen)))

numbered_at : (c : ConstraintData) (old new : List StateKey) (rows : List (List (Option ℕ))) (row : List (Option ℕ)) (raw : RawState) (number : ℕ)
    → IsFoundSoFar c old rows row → length rows < length old → step_raw c (raw_at c old (length rows)) (length row) ≡ Some raw
    → NumbersRaw c old raw new (Ok number) → IsFoundSoFar c new rows (row ++ Some number ∷ [])
numbered_at c old new rows row raw number found here goes (inl known) =
    subst (λ keys. IsFoundSoFar c keys rows (row ++ Some number ∷ [])) (sym known.same)
    (so_far_known c old rows row (Some number) found here (goes ∙ ap Some (sym known.there))
    (λ t e. let same : number ≡ t = cc in let inside = known.inside in omega (arith, same, inside)))
numbered_at c old new rows row raw number found here goes (inr added) =
    subst (λ n. IsFoundSoFar c new rows (row ++ Some n ∷ [])) (sym added.1) (added_at c old raw new rows row found here goes added.0)

-- the search with one more symbol
pub so_far_symbol : (c : ConstraintData) (old new : List StateKey) (rows : List (List (Option ℕ))) (row : List (Option ℕ)) (at symbol : ℕ) (next : Option ℕ)
    → at ≡ length rows → symbol ≡ length row → IsFoundSoFar c old rows row → at < length old
    → Follows c old at symbol new (Ok next) → IsFoundSoFar c new rows (row ++ next ∷ [])
so_far_symbol c old new rows row at symbol None same_at same_symbol found here follows =
    subst (λ keys. IsFoundSoFar c keys rows (row ++ None ∷ [])) (sym follows.0)
    (so_far_known c old rows row None found (omega (arith, same_at, here))
    (subst (λ i. step_raw c (raw_at c old i) (length row) ≡ None) same_at (subst (λ s. step_raw c (raw_at c old at) s ≡ None) same_symbol follows.1))
    (λ t e. absurd (cc)))
so_far_symbol c old new rows row at symbol (Some number) same_at same_symbol found here follows =
    numbered_at c old new rows row follows.0 number found (omega (arith, same_at, here))
    (subst (λ i. step_raw c (raw_at c old i) (length row) ≡ Some follows.0) same_at
    (subst (λ s. step_raw c (raw_at c old at) s ≡ Some follows.0) same_symbol follows.1))
    follows.2

-- what was found are raw states of words
pub so_far_raws : (c : ConstraintData) (keys : List StateKey) (rows : List (List (Option ℕ))) (row : List (Option ℕ)) → IsConstraint c
    → IsFoundSoFar c keys rows row → HaveRawStates c (length keys)
so_far_raws c keys rows row ranges found = record {
  raw = raw_at c keys;
  words = λ i inside.
      let read = found.searching.found i inside in
      let word = found.word i in (
        word,
        (read-words c word ranges).0 (ap is_some read),
        subst (λ raw. IsRawStateOf c word raw) (sym (read-state c word (raw_at c keys i) read)) (raw_state_of_word c word ranges),
      );
  different = found.different;
}

fault_by : (c : ConstraintData) (old new : List StateKey) (rows : List (List (Option ℕ))) (row : List (Option ℕ)) (raw : RawState) (fault : CoverFault)
    → IsConstraint c → IsFoundSoFar c old rows row → length rows < length old → step_raw c (raw_at c old (length rows)) (length row) ≡ Some raw
    → NumbersRaw c old raw new (Err fault) → IsSearchFault c fault
fault_by c old new rows row raw (RawStates count) ranges found here goes told =
    let more = added_at c old raw new rows row found here goes told.0 in
    let size : length new ≡ 4097 =
    ap (λ (l : List StateKey). length l) told.0.joined ∙ length-append old (told.0.key ∷ []) ∙ ap (λ n. n + 1) told.1 in
    (subst (λ n. HaveRawStates c n) size (so_far_raws c new rows (row ++ Some (length old) ∷ []) ranges more), told.2)
fault_by c old new rows row raw (CoverStates count) ranges found here goes told = told
fault_by c old new rows row raw NoMemory ranges found here goes told = tt

-- why the search ends early
pub so_far_fault : (c : ConstraintData) (old new : List StateKey) (rows : List (List (Option ℕ))) (row : List (Option ℕ)) (at symbol : ℕ) (fault : CoverFault)
    → at ≡ length rows → symbol ≡ length row → IsConstraint c → IsFoundSoFar c old rows row → at < length old
    → Follows c old at symbol new (Err fault) → IsSearchFault c fault
so_far_fault c old new rows row at symbol fault same_at same_symbol ranges found here (inl none) =
    subst (λ f. IsSearchFault c f) (sym none) tt
so_far_fault c old new rows row at symbol fault same_at same_symbol ranges found here (inr told) =
    fault_by c old new rows row told.0 fault ranges found (omega (arith, same_at, here))
    (subst (λ i. step_raw c (raw_at c old i) (length row) ≡ Some told.0) same_at
    (subst (λ s. step_raw c (raw_at c old at) s ≡ Some told.0) same_symbol told.1))
    told.2

-- a new key is at most one more
pub follows_few : (c : ConstraintData) (old new : List StateKey) (at symbol : ℕ) (next : Option ℕ) → length old ≤ 4096
    → Follows c old at symbol new (Ok next) → (length old ≤ length new) × (length new ≤ 4096)
follows_few c old new at symbol None few follows = let same = ap (λ (l : List StateKey). length l) follows.0 in (omega (arith, same), omega (arith, same, few))
follows_few c old new at symbol (Some number) few follows = elim follows.2 [
  | inl known ↦ (let same = ap (λ (l : List StateKey). length l) known.same in (omega (arith, same), omega (arith, same, few)))
  | inr added ↦ (
      let size = ap (λ (l : List StateKey). length l) added.0.joined ∙ length-append old (added.0.key ∷ []) in
      let at_end = added.1 in
      let small = added.2 in
      (omega (arith, size), omega (arith, size, at_end, small)))
]

-- the same search under another table with the same places
pub same_table : (c : ConstraintData) (keys : List StateKey) (word : ℕ → List ℕ) (i s : ℕ) (next more : ℕ → ℕ → Option ℕ) → ((j t : ℕ) → more j t ≡ next j t)
    → IsSearching (step_raw c) (first_raw_state c) next (length keys) (raw_at c keys) word i s
    → IsSearching (step_raw c) (first_raw_state c) more (length keys) (raw_at c keys) word i s
same_table c keys word i s next more same searching = record {
  some = searching.some;
  here = searching.here;
  first = searching.first;
  root = searching.root;
  found = searching.found;
  ascending = searching.ascending;
  ahead = searching.ahead;
  moves = λ j t at. searching.moves j t at ∙ ap (option_map (raw_at c keys)) (sym (same j t));
  least = λ j t m at e. searching.least j t m at (sym (same j t) ∙ e);
}

pub table_end : (rows : List (List (Option ℕ))) (j : ℕ) → get_or (rows ++ [] ∷ []) j [] ≡ get_or rows j []
table_end [] zero = refl
table_end [] (suc j) = refl
table_end (r ∷ rows) zero = refl
table_end (r ∷ rows) (suc j) = table_end rows j

past_row : (row : List (Option ℕ)) (s : ℕ) → length row ≤ s → get_or row s None ≡ None
past_row row s past = get_or-eq_default row None {n = s} past

-- no symbol past the alphabet can follow
past_alphabet : (c : ConstraintData) (raw : RawState) (s : ℕ) → c.alphabet ≤ s → step_raw c raw s ≡ None
past_alphabet c raw s past =
    runs_stop c raw s (and_left (nat_lt s c.alphabet)
    ((not (nat_eq s 1) || (not raw.after_one || nat_le c.d raw.zeros)) && (not (nat_eq s 0) || is_below raw.zeros c.k))
    (le-ltb s c.alphabet past))

-- the search with one more row
pub so_far_row : (c : ConstraintData) (keys : List StateKey) (rows : List (List (Option ℕ))) (row : List (Option ℕ)) → length row ≡ c.alphabet
    → IsFoundSoFar c keys rows row → length rows < length keys → IsFoundSoFar c keys (rows ++ row ∷ []) []
so_far_row c keys rows row size found here =
    let next = next_in (rows ++ row ∷ []) in
    let done = search-row (step_raw c) (first_raw_state c) next (length keys) (raw_at c keys) found.word (length rows) (length row) here
    found.searching (λ s past. (past_alphabet c (raw_at c keys (length rows)) s (omega (arith, size, past)), row_here rows row s ∙ past_row row s past)) in
    let told = same_table c keys found.word (length rows + 1) 0 next (next_in ((rows ++ row ∷ []) ++ [] ∷ []))
    (λ j t. ap (λ (r : List (Option ℕ)). get_or r t None) (table_end (rows ++ row ∷ []) j)) done in
    record {
      word = found.word;
      searching = subst (λ n. IsSearching (step_raw c) (first_raw_state c) (next_in ((rows ++ row ∷ []) ++ [] ∷ [])) (length keys) (raw_at c keys) found.word n 0)
          (sym (length-append rows (row ∷ []))) told;
      different = found.different;
    }

first_only : (c : ConstraintData) (key : StateKey) (m : ℕ) → raw_of key ≡ first_raw_state c → raw_at c (key ∷ []) m ≡ first_raw_state c
first_only c key zero same = same
first_only c key (suc m) same = refl

none_done : (j s : ℕ) → IsDone 0 0 j s → ⊥
none_done j s (inl less) = omega (arith, less)
none_done j s (inr here) = let less = here.1 in omega (arith, less)

-- the search begins with the raw state of the empty word
pub so_far_start : (c : ConstraintData) (key : StateKey) → raw_of key ≡ first_raw_state c → IsFoundSoFar c (key ∷ []) [] []
so_far_start c key same = record {
  word = λ m. [];
  searching = record {
    some = omega arith;
    here = omega arith;
    first = same;
    root = refl;
    found = λ m m_in. ap Some (sym (first_only c key m same));
    ascending = λ a m less m_in. absurd (omega (arith, less, m_in));
    ahead = λ here m m_in. inl (omega arith);
    moves = λ j s at. absurd (none_done j s at);
    least = λ j s t at e. absurd (none_done j s at);
  };
  different = λ i j less inside. absurd (omega (arith, less, inside));
}

-- the rows with one more
pub pushed_rows : (rows : List (Vec (Option ℕ))) (row : Vec (Option ℕ)) → map (λ (r : Vec (Option ℕ)). r.items) (rows ++ row ∷ []) ≡ map (λ (r : Vec (Option ℕ)). r.items) rows ++ row.items ∷ []
pushed_rows [] row = refl
pushed_rows (r ∷ rows) row = ap (λ (rs : List (List (Option ℕ))). r.items ∷ rs) (pushed_rows rows row)

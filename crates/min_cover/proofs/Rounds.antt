-- A round of refinement: numbering by signs, and what it keeps.
use Rattle.std.proofs.Common.{◌≡◌, ◌≢◌, ◌⊎◌, ℕ, ◌+◌, ◌<◌, ◌≤◌, List, [], ◌∷◌, ◌++◌, length, map, get_or, slice_get, Option, Some, None, Bool, true, false, cond, not, nat_eq, inl, inr, refl, ap, sym, ◌∙◌, subst, arith, length-append}
use Rattle.std.specs.Prelude.{slice_index, IfSome}
use Rattle.std.specs.Global.{Vec}
use Rattle.std.specs.Cmp.Lexicographic.{pointwise}
use Rattle.std.specs.List.{list_any, range_with_len}
use Rattle.std.proofs.lemmas.Bool.{cases_lt, cases_Bool, true≢false}
use Rattle.std.proofs.lemmas.List.{get_or_append_left, get_or-map, length-map, get_or_default}
use Rattle.std.proofs.lemmas.List.FromFn.{fill_by_all}
use Rattle.std.proofs.lemmas.List.Folds.{list_any_at}
use Rattle.std.proofs.lemmas.Option.{get_or_from_slice_get}
use Rattle.std.proofs.Math.ListN.{get_or-eq_default}
use Rattle.indexmap.specs.IndexSet.{insert_key}
use Rattle.min_cover.specs.inside.Machine.{IsTold, IsRound}
use Rattle.min_cover.specs.inside.Search.{IsByFirst, sign_of, target_sign}
use Rattle.min_cover.specs.inside.Found.{next_in}
use Rattle.min_cover.specs.inside.Classes.{IsTable, IsNumberedSoFar, IsClassedBy, IsToldApart, IsRefined, rows_of}
use Rattle.min_cover.proofs.Classes.{round-told, round-stable}
use Rattle.min_cover.proofs.Signs.{signs-round}
use Rattle.min_cover.proofs.ByFirst.{refined_same, refined_more, classes_few}
use Rattle.min_cover.proofs.Numbering.{list_same, list_refl}
use Rattle.min_cover.proofs.SearchSteps.{last_or_before}
use Rattle.min_cover.proofs.FoundSteps.{last_item}

kept : (xs : List ℕ) (x i : ℕ) → i < length xs → get_or (xs ++ x ∷ []) i 0 ≡ get_or xs i 0
kept xs x i inside = get_or_append_left xs (x ∷ []) 0 i inside

-- one more state with a sign that came before
pub numbered_known : (sign : ℕ → List ℕ) (keys : List (List ℕ)) (of firsts : List ℕ) (number : ℕ) → IsNumberedSoFar sign keys of firsts
    → number < length keys → get_or keys number [] ≡ sign (length of) → IsNumberedSoFar sign keys (of ++ number ∷ []) firsts
numbered_known sign keys of firsts number so_far inside at =
    let more = of ++ number ∷ [] in
    let size : length more ≡ length of + 1 = length-append of (number ∷ []) in
    let here : get_or more (length of) 0 ≡ number = last_item of number 0 in
    let old = so_far.by_first in
    record {
      size = so_far.size;
      by_first = record {
        inside = λ q q_in. elim (last_or_before q (length of) (omega (arith, q_in, size))) [
          | inl before ↦ subst (λ n. (n < length keys) × (get_or firsts n 0 ≤ q)) (sym (kept of number q before)) (old.inside q before)
          | inr same ↦ subst (λ n. (n < length keys) × (get_or firsts n 0 ≤ q)) (sym (ap (λ i. get_or more i 0) same ∙ here))
              (inside, (let low = (old.member number inside).0 in omega (arith, low, same)))
        ];
        member = λ m m_in.
            let back = old.member m m_in in
            (omega (arith, size, back.0), kept of number (get_or firsts m 0) back.0 ∙ back.1);
        ascending = old.ascending;
      };
      stands = λ q q_in. elim (last_or_before q (length of) (omega (arith, q_in, size))) [
        | inl before ↦ ap (λ n. get_or keys n []) (kept of number q before) ∙ so_far.stands q before
        | inr same ↦ ap (λ n. get_or keys n []) (ap (λ i. get_or more i 0) same ∙ here) ∙ at ∙ ap sign (sym same)
      ];
      different = so_far.different;
    }

-- one more state with a new sign
pub numbered_added : (sign : ℕ → List ℕ) (keys : List (List ℕ)) (of firsts : List ℕ) (key : List ℕ) → IsNumberedSoFar sign keys of firsts
    → key ≡ sign (length of) → ((i : ℕ) → i < length keys → get_or keys i [] ≢ key)
    → IsNumberedSoFar sign (keys ++ key ∷ []) (of ++ length keys ∷ []) (firsts ++ length of ∷ [])
numbered_added sign keys of firsts key so_far at other =
    let number = length keys in
    let more = of ++ number ∷ [] in
    let longer = firsts ++ length of ∷ [] in
    let signs = keys ++ key ∷ [] in
    let size : length more ≡ length of + 1 = length-append of (number ∷ []) in
    let wide : length signs ≡ number + 1 = length-append keys (key ∷ []) in
    let here : get_or more (length of) 0 ≡ number = last_item of number 0 in
    let first_here : get_or longer number 0 ≡ length of = ap (λ i. get_or longer i 0) (sym so_far.size) ∙ last_item firsts (length of) 0 in
    let old = so_far.by_first in
    let first_kept : (m : ℕ) → m < number → get_or longer m 0 ≡ get_or firsts m 0 =
    λ m m_in. kept firsts (length of) m (omega (arith, m_in, so_far.size)) in
    let sign_kept : (m : ℕ) → m < number → get_or signs m [] ≡ get_or keys m [] =
    λ m m_in. get_or_append_left keys (key ∷ []) [] m m_in in
    record {
      size = length-append firsts (length of ∷ []) ∙ ap (λ n. n + 1) so_far.size ∙ sym wide;
      by_first = record {
        inside = λ q q_in. elim (last_or_before q (length of) (omega (arith, q_in, size))) [
          | inl before ↦ (
              let known = old.inside q before in
              subst (λ n. (n < length signs) × (get_or longer n 0 ≤ q)) (sym (kept of number q before))
              (omega (arith, known.0, wide), subst (λ n. n ≤ q) (sym (first_kept (get_or of q 0) known.0)) known.1))
          | inr same ↦ subst (λ n. (n < length signs) × (get_or longer n 0 ≤ q)) (sym (ap (λ i. get_or more i 0) same ∙ here))
              (omega (arith, wide), omega (arith, first_here, same))
        ];
        member = λ m m_in. elim (last_or_before m number (omega (arith, m_in, wide))) [
          | inl before ↦ (
              let back = old.member m before in
              let at_first = first_kept m before in
              (omega (arith, size, back.0, at_first), ap (λ i. get_or more i 0) at_first ∙ kept of number (get_or firsts m 0) back.0 ∙ back.1))
          | inr same ↦ (
              let at_first : get_or longer m 0 ≡ length of = ap (λ i. get_or longer i 0) same ∙ first_here in
              (omega (arith, size, at_first), ap (λ i. get_or more i 0) at_first ∙ here ∙ sym same))
        ];
        ascending = λ i m less m_in. elim (last_or_before m number (omega (arith, m_in, wide))) [
          | inl before ↦ (
              let i_in : i < number = omega (arith, less, before) in
              let up = old.ascending i m less before in
              let a = first_kept i i_in in
              let b = first_kept m before in
              omega (arith, up, a, b))
          | inr same ↦ (
              let i_in : i < number = omega (arith, less, same) in
              let low = (old.member i i_in).0 in
              let a = first_kept i i_in in
              let b : get_or longer m 0 ≡ length of = ap (λ i. get_or longer i 0) same ∙ first_here in
              omega (arith, low, a, b))
        ];
      };
      stands = λ q q_in. elim (last_or_before q (length of) (omega (arith, q_in, size))) [
        | inl before ↦ ap (λ n. get_or signs n []) (kept of number q before) ∙ sign_kept (get_or of q 0) (old.inside q before).0 ∙ so_far.stands q before
        | inr same ↦ ap (λ n. get_or signs n []) (ap (λ i. get_or more i 0) same ∙ here) ∙ last_item keys key [] ∙ at ∙ ap sign (sym same)
      ];
      different = λ a b less b_in. elim (last_or_before b number (omega (arith, b_in, wide))) [
        | inl before ↦ λ same. so_far.different a b less before (sym (sign_kept a (omega (arith, less, before))) ∙ same ∙ sign_kept b before)
        | inr at_end ↦ λ same. other a (omega (arith, less, at_end))
            (sym (sign_kept a (omega (arith, less, at_end))) ∙ same ∙ ap (λ i. get_or signs i []) at_end ∙ last_item keys key [])
      ];
    }

-- no symbol past the alphabet leads anywhere
past_table : (alphabet : ℕ) (rows : List (List (Option ℕ))) (q symbol : ℕ) → IsTable alphabet rows → q < length rows → alphabet ≤ symbol
    → next_in rows q symbol ≡ None
past_table alphabet rows q symbol table q_in past =
    let width = table.width q q_in in get_or-eq_default (get_or rows q []) None {n = symbol} (omega (arith, width, past))

-- classes by signs are a round
by_signs : (alphabet : ℕ) (rows : List (List (Option ℕ))) (classes of firsts : List ℕ) → IsTable alphabet rows
    → IsClassedBy (sign_of (next_in rows) alphabet (slice_index classes)) (length rows) of firsts
    → IsRound (next_in rows) (length rows) (slice_index classes) (slice_index of)
by_signs alphabet rows classes of firsts table classed =
    signs-round (next_in rows) alphabet (length rows) (slice_index classes) (slice_index of)
    (record {
      over = λ q symbol q_in past. past_table alphabet rows q symbol table q_in past;
      same = λ q r q_in r_in e. (classed.signs q r q_in r_in).0 e;
      told = λ q r q_in r_in e. (classed.signs q r q_in r_in).1 e;
    })

-- a round keeps that classes are told apart
pub told_round : (alphabet : ℕ) (rows : List (List (Option ℕ))) (classes of firsts : List ℕ) → IsTable alphabet rows
    → IsTold (next_in rows) (length rows) (slice_index classes)
    → IsClassedBy (sign_of (next_in rows) alphabet (slice_index classes)) (length rows) of firsts
    → IsToldApart (next_in rows) (length rows) of firsts
told_round alphabet rows classes of firsts table told classed = record {
  size = classed.size;
  by_first = classed.by_first;
  told = round-told (next_in rows) (length rows) (slice_index classes) (slice_index of) table.closed
      (by_signs alphabet rows classes of firsts table classed) told;
}

-- one class has nothing to tell apart
pub told_whole : (step : ℕ → ℕ → Option ℕ) (n : ℕ) (classes : List ℕ) → ((q : ℕ) → q < n → slice_index classes q ≡ 0) → IsTold step n (slice_index classes)
told_whole step n classes same q r q_in r_in differ = absurd (differ (same q q_in ∙ sym (same r r_in)))

-- a round into no more classes shows them refined
pub refined_round : (alphabet : ℕ) (rows : List (List (Option ℕ))) (classes before of firsts : List ℕ) → IsTable alphabet rows
    → IsToldApart (next_in rows) (length rows) classes before
    → IsClassedBy (sign_of (next_in rows) alphabet (slice_index classes)) (length rows) of firsts
    → length firsts ≤ length before → IsRefined (next_in rows) (length rows) classes before
refined_round alphabet rows classes before of firsts table apart classed few =
    let round = by_signs alphabet rows classes of firsts table classed in
    let refines : (p q : ℕ) → p < length rows → q < length rows → slice_index of p ≡ slice_index of q → slice_index classes p ≡ slice_index classes q =
    λ p q p_in q_in e. (round.same p q p_in q_in e).0 in
    let more = refined_more (length rows) (slice_index classes) (length before) (slice_index before) (slice_index of) (length firsts) (slice_index firsts)
    apart.by_first classed.by_first refines in
    let same : length firsts ≡ length before = omega (arith, more, few) in
    record {
      size = apart.size;
      by_first = apart.by_first;
      told = apart.told;
      stable = round-stable (next_in rows) (length rows) (slice_index classes) (slice_index of) round
          (refined_same (length rows) (slice_index classes) (length before) (slice_index before) (slice_index of) (slice_index firsts)
          apart.by_first (subst (λ n. IsByFirst (length rows) (slice_index of) n (slice_index firsts)) same classed.by_first) refines);
    }

-- a row of places is read place by place
row_signs : (f : Option ℕ → ℕ) (row : List (Option ℕ)) → map f row ≡ map (λ symbol. f (get_or row symbol None)) (range_with_len 0 (length row))
row_signs f row =
    fill_by_all (λ symbol. f (get_or row symbol None)) (map f row) (length row) 0 (length-map row f)
    (λ k k_in. get_or-map f row k None 0 k_in)

-- the sign of a state by its row
pub sign_by_row : (alphabet : ℕ) (rows : List (List (Option ℕ))) (row : List (Option ℕ)) (classes : List ℕ) (state : ℕ) → IsTable alphabet rows
    → state < length rows → row ≡ get_or rows state []
    → slice_index classes state ∷ map (target_sign (slice_index classes)) row ≡ sign_of (next_in rows) alphabet (slice_index classes) state
sign_by_row alphabet rows row classes state table inside at =
    let width : length row ≡ alphabet = ap (λ (r : List (Option ℕ)). length r) at ∙ table.width state inside in
    let sign = target_sign (slice_index classes) in
    ap (λ (xs : List ℕ). slice_index classes state ∷ xs)
    (row_signs sign row ∙ ap (λ n. map (λ (symbol : ℕ). sign (get_or row symbol None)) (range_with_len 0 n)) width
    ∙ ap (λ (r : List (Option ℕ)). map (λ (symbol : ℕ). sign (get_or r symbol None)) (range_with_len 0 alphabet)) at)

-- a sign that is put in came before, or is a new one
pub numbers_sign : (old new : List (List ℕ)) (key found : List ℕ) (n : ℕ) (is_new : Bool) → new ≡ insert_key (pointwise nat_eq) old key
    → n < length new → slice_get new n ≡ Some found → pointwise nat_eq key found ≡ true → is_new ≡ not (list_any (pointwise nat_eq key) old)
    → ((is_new ≡ false) × (new ≡ old) × (n < length old) × (get_or old n [] ≡ key))
    ⊎ ((is_new ≡ true) × (new ≡ old ++ key ∷ []) × (n ≡ length old) × ((i : ℕ) → i < length old → get_or old i [] ≢ key))
numbers_sign old new key found n is_new put inside at passes added =
    let there : get_or new n [] ≡ key = get_or_from_slice_get new n found [] at ∙ sym (list_same key found passes) in
    elim (cases_Bool (list_any (pointwise nat_eq key) old)) [
      | inl some ↦ (
          let same : new ≡ old = put ∙ ap (λ b. cond b old (old ++ key ∷ [])) some in
          inl (added ∙ ap not some, same, subst (λ (l : List (List ℕ)). n < length l) same inside, subst (λ (l : List (List ℕ)). get_or l n [] ≡ key) same there))
      | inr none ↦ (
          let same : new ≡ old ++ key ∷ [] = put ∙ ap (λ b. cond b old (old ++ key ∷ [])) none in
          let size : length new ≡ length old + 1 = ap (λ (l : List (List ℕ)). length l) same ∙ length-append old (key ∷ []) in
          let other : (i : ℕ) → i < length old → get_or old i [] ≢ key =
          λ i i_in equal. true≢false
          (sym (list_any_at (pointwise nat_eq key) old i [] i_in (ap (pointwise nat_eq key) equal ∙ list_refl key)) ∙ none) in
          let last : n ≡ length old = elim (cases_lt n (length old)) [
            | inl low ↦ absurd (other n low
                (sym (get_or_append_left old (key ∷ []) [] n low) ∙ ap (λ (l : List (List ℕ)). get_or l n []) (sym same) ∙ there))
            | inr high ↦ omega (arith, size, inside, high)
          ] in
          inr (added ∙ ap not none, same, last, other))
    ]

-- the row of a state as a plain list
pub row_at : (rows : List (Vec (Option ℕ))) (state : ℕ) (found : Vec (Option ℕ)) (row : List (Option ℕ)) → state < length rows
    → found ≡ get_or rows state found → row ≡ found.items → row ≡ get_or (rows_of rows) state []
row_at rows state found row inside at items =
    items ∙ ap (λ (r : Vec (Option ℕ)). r.items) at ∙ sym (get_or-map (λ (r : Vec (Option ℕ)). r.items) rows state found [] inside)

pub size_of_rows : (rows : List (Vec (Option ℕ))) → length (rows_of rows) ≡ length rows
size_of_rows rows = length-map rows (λ (r : Vec (Option ℕ)). r.items)

inside_by : (o : Option ℕ) (n : ℕ) → ((t : ℕ) → o ≡ Some t → t < n) → IfSome o (λ t. t < n)
inside_by None n told = tt
inside_by (Some t) n told = told t refl

-- the numbers in a row are of states
pub row_inside : (alphabet : ℕ) (rows : List (Vec (Option ℕ))) (state n : ℕ) (found : Vec (Option ℕ)) (row : List (Option ℕ))
    → IsTable alphabet (rows_of rows) → state < length rows → found ≡ get_or rows state found → row ≡ found.items → n ≡ length rows
    → (k : ℕ) (d : Option ℕ) → k < length row → IfSome (get_or row k d) (λ t. t < n)
row_inside alphabet rows state n found row table inside at items size k d k_in =
    inside_by (get_or row k d) n (λ t e.
    let place : next_in (rows_of rows) state k ≡ Some t =
    ap (λ (r : List (Option ℕ)). get_or r k None) (sym (row_at rows state found row inside at items)) ∙ get_or_default row k None d k_in ∙ e in
    let below = table.closed state k t (omega (arith, inside, size_of_rows rows)) place in
    omega (arith, below, size, size_of_rows rows))

-- the sign of a state by the row that was read
pub sign_read : (alphabet : ℕ) (rows : List (Vec (Option ℕ))) (state : ℕ) (found : Vec (Option ℕ)) (row : List (Option ℕ)) (classes sign : List ℕ)
    → IsTable alphabet (rows_of rows) → state < length rows → found ≡ get_or rows state found → row ≡ found.items
    → sign ≡ slice_index classes state ∷ map (target_sign (slice_index classes)) row
    → sign ≡ sign_of (next_in (rows_of rows)) alphabet (slice_index classes) state
sign_read alphabet rows state found row classes sign table inside at items same =
    same ∙ sign_by_row alphabet (rows_of rows) row classes state table (omega (arith, inside, size_of_rows rows)) (row_at rows state found row inside at items)

abbrev IsPutIn : List (List ℕ) → List ℕ → List (List ℕ) → ℕ → Bool → Type 0
IsPutIn old key new n is_new =
    ((is_new ≡ false) × (new ≡ old) × (n < length old) × (get_or old n [] ≡ key))
    ⊎ ((is_new ≡ true) × (new ≡ old ++ key ∷ []) × (n ≡ length old) × ((i : ℕ) → i < length old → get_or old i [] ≢ key))

-- the numbering with one more state, whose sign came before
pub round_known : (sign : ℕ → List ℕ) (old new : List (List ℕ)) (of firsts key : List ℕ) (number : ℕ) (is_new : Bool) (state : ℕ)
    → IsNumberedSoFar sign old of firsts → length of ≡ state → length old ≤ state → key ≡ sign state → is_new ≡ false
    → IsPutIn old key new number is_new → (length new ≤ state + 1) × IsNumberedSoFar sign new (of ++ number ∷ []) firsts
round_known sign old new of firsts key number is_new state so_far size few at none (inl known) = (
  (let same = ap (λ (l : List (List ℕ)). length l) known.1 in omega (arith, same, few)),
  subst (λ (l : List (List ℕ)). IsNumberedSoFar sign l (of ++ number ∷ []) firsts) (sym known.1)
      (numbered_known sign old of firsts number so_far known.2 (known.3 ∙ at ∙ ap sign (sym size))),
)
round_known sign old new of firsts key number is_new state so_far size few at none (inr added) = absurd (true≢false (sym added.0 ∙ none))

-- and with one whose sign is new
pub round_added : (sign : ℕ → List ℕ) (old new : List (List ℕ)) (of firsts key : List ℕ) (number : ℕ) (is_new : Bool) (state : ℕ)
    → IsNumberedSoFar sign old of firsts → length of ≡ state → length old ≤ state → key ≡ sign state → is_new ≡ true
    → IsPutIn old key new number is_new → (length new ≤ state + 1) × IsNumberedSoFar sign new (of ++ number ∷ []) (firsts ++ state ∷ [])
round_added sign old new of firsts key number is_new state so_far size few at some (inl known) = absurd (true≢false (sym some ∙ known.0))
round_added sign old new of firsts key number is_new state so_far size few at some (inr added) = (
  (let same = ap (λ (l : List (List ℕ)). length l) added.1 ∙ length-append old (key ∷ []) in omega (arith, same, few)),
  subst (λ (l : List (List ℕ)). IsNumberedSoFar sign l (of ++ number ∷ []) (firsts ++ state ∷ [])) (sym added.1)
      (subst (λ n. IsNumberedSoFar sign (old ++ key ∷ []) (of ++ n ∷ []) (firsts ++ state ∷ [])) (sym added.2)
      (subst (λ n. IsNumberedSoFar sign (old ++ key ∷ []) (of ++ length old ∷ []) (firsts ++ n ∷ [])) size
      (numbered_added sign old of firsts key so_far (at ∙ ap sign (sym size)) added.3))),
)

-- classes are numbered below 4,096
pub classes_small : (count : ℕ) (of firsts : List ℕ) → length of ≡ count → IsByFirst count (slice_index of) (length firsts) (slice_index firsts)
    → count ≤ 4096 → (q : ℕ) → q < length of → slice_index of q < 4096
classes_small count of firsts size by_first few q q_in =
    let low = (by_first.inside q (omega (arith, size, q_in))).0 in
    let most = classes_few count (slice_index of) (length firsts) (slice_index firsts) by_first in
    omega (arith, low, most, few)

-- the same over rows as they are kept
pub told_rows : (alphabet : ℕ) (rows : List (Vec (Option ℕ))) (classes of firsts : List ℕ) → IsTable alphabet (rows_of rows)
    → IsTold (next_in (rows_of rows)) (length rows) (slice_index classes)
    → IsClassedBy (sign_of (next_in (rows_of rows)) alphabet (slice_index classes)) (length rows) of firsts
    → IsToldApart (next_in (rows_of rows)) (length rows) of firsts
told_rows alphabet rows classes of firsts table =
    let step = next_in (rows_of rows) in
    let P : ℕ → Type 0 = λ n. IsTold step n (slice_index classes) → IsClassedBy (sign_of step alphabet (slice_index classes)) n of firsts → IsToldApart step n of firsts in
    subst P (size_of_rows rows) (told_round alphabet (rows_of rows) classes of firsts table)

pub refined_rows : (alphabet : ℕ) (rows : List (Vec (Option ℕ))) (classes before of firsts : List ℕ) → IsTable alphabet (rows_of rows)
    → length firsts ≤ length before → IsToldApart (next_in (rows_of rows)) (length rows) classes before
    → IsClassedBy (sign_of (next_in (rows_of rows)) alphabet (slice_index classes)) (length rows) of firsts
    → IsRefined (next_in (rows_of rows)) (length rows) classes before
refined_rows alphabet rows classes before of firsts table few =
    let step = next_in (rows_of rows) in
    let P : ℕ → Type 0 = λ n. IsToldApart step n classes before → IsClassedBy (sign_of step alphabet (slice_index classes)) n of firsts → IsRefined step n classes before in
    subst P (size_of_rows rows) (λ apart classed. refined_round alphabet (rows_of rows) classes before of firsts table apart classed few)

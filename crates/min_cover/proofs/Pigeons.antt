-- More different raw states than a search has found can't be.
use Rattle.std.proofs.Common.{◌≡◌, ◌≢◌, ◌⊎◌, ℕ, zero, suc, ◌<◌, ◌≤◌, List, Option, Some, None, true, cond, nat_eq, inl, inr, refl, ap, sym, ◌∙◌, arith, eq-eqb, ne_eqb, is_some}
use Rattle.std.specs.Option.{option_map}
use Rattle.std.proofs.lemmas.Bool.{cases_eq, cases_lt, true≢false}
use Rattle.constraint_spec.specs.Constraint.{ConstraintData, IsWordOf}
use Rattle.constraint_spec.specs.Ranges.{IsConstraint}
use Rattle.constraint_spec.specs.RawState.{RawState, IsRawStateOf}
use Rattle.constraint_spec.specs.RawStateOf.{first_raw_state, raw_state}
use Rattle.constraint_spec.proofs.RawStates.{raw_state_of_word, one_raw_state}
use Rattle.min_cover.specs.StateCounts.{HaveRawStates}
use Rattle.min_cover.specs.inside.Machine.{reads}
use Rattle.min_cover.specs.inside.Search.{IsNumbered}
use Rattle.min_cover.specs.inside.Raw.{step_raw}
use Rattle.min_cover.proofs.Explored.{numbered-reads}
use Rattle.min_cover.proofs.SearchSteps.{reads-inside}
use Rattle.min_cover.proofs.RawReading.{read-words, read-state}

-- n + 1 different numbers are not all below n
pub pigeons : (n : ℕ) (f : ℕ → ℕ) → ((i : ℕ) → i < suc n → f i < n) → ((i j : ℕ) → i < j → j < suc n → f i ≢ f j) → ⊥
pigeons zero f inside different = let none = inside 0 (omega arith) in omega (arith, none)
pigeons (suc n) f inside different =
    let last = f (suc n) in
    let g : ℕ → ℕ = λ i. cond (nat_eq (f i) n) last (f i) in
    let moved : (i : ℕ) → f i ≡ n → g i ≡ last = λ i same. ap (λ b. cond b last (f i)) (eq-eqb (f i) n same) in
    let stays : (i : ℕ) → (f i ≡ n → ⊥) → g i ≡ f i = λ i other. ap (λ b. cond b last (f i)) (ne_eqb (f i) n other) in
    let last_in = inside (suc n) (omega arith) in
    pigeons n g
    (λ i i_in. elim (cases_eq (f i) n) [
      | inl same ↦ (
          let apart = different i (suc n) (omega (arith, i_in)) (omega arith) in
          let at = moved i same in
          let less : last < n = elim (cases_eq last n) [ inl both ↦ absurd (apart (same ∙ sym both)) | inr other ↦ omega (arith, last_in, other) ] in
          omega (arith, at, less))
      | inr other ↦ (let at = stays i other in let low = inside i (omega (arith, i_in)) in omega (arith, at, low, other))
    ])
    (λ i j less j_in equal. elim (cases_eq (f i) n) [
      | inl one ↦ elim (cases_eq (f j) n) [
        | inl two ↦ different i j less (omega (arith, j_in)) (one ∙ sym two)
        | inr two ↦ different j (suc n) (omega (arith, j_in)) (omega arith) (sym (stays j two) ∙ sym equal ∙ moved i one)
      ]
      | inr one ↦ elim (cases_eq (f j) n) [
        | inl two ↦ different i (suc n) (omega (arith, less, j_in)) (omega arith) (sym (stays i one) ∙ equal ∙ moved j two)
        | inr two ↦ different i j less (omega (arith, j_in)) (sym (stays i one) ∙ equal ∙ stays j two)
      ]
    ])

some_of : {X : Type 0} (o : Option X) → is_some o ≡ true → (x : X) × (o ≡ Some x)
some_of None e = absurd (true≢false (sym e))
some_of (Some x) e = (x, refl)

number_by : (key : ℕ → RawState) (o : Option ℕ) (raw : RawState) → option_map key o ≡ Some raw → (t : ℕ) × (o ≡ Some t) × (key t ≡ raw)
number_by key None raw e = absurd (cc)
number_by key (Some t) raw e = (t, refl, cc)

-- the raw state of a word has a number
word_number : (c : ConstraintData) (count : ℕ) (key : ℕ → RawState) (next : ℕ → ℕ → Option ℕ) → IsConstraint c
    → IsNumbered (step_raw c) count key next → 0 < count → key 0 ≡ first_raw_state c → (w : List ℕ) (raw : RawState) → IsWordOf c w → IsRawStateOf c w raw
    → (t : ℕ) × (t < count) × (key t ≡ raw)
word_number c count key next ranges numbered some root w raw word known =
    let read = some_of (reads (step_raw c) (first_raw_state c) w) ((read-words c w ranges).1 word) in
    let end : read.0 ≡ raw = read-state c w read.0 read.1 ∙ one_raw_state c w (raw_state c w) raw (raw_state_of_word c w ranges) known in
    let whole : option_map key (reads next 0 w) ≡ Some raw =
    sym (numbered-reads (step_raw c) count key next numbered w 0 some) ∙ ap (λ q. reads (step_raw c) q w) root ∙ read.1 ∙ ap Some end in
    let at = number_by key (reads next 0 w) raw whole in
    (at.0, reads-inside next count w 0 at.0 numbered.closed some at.1, at.2)

-- the numbers of the raw states that are said to exist
pick : (c : ConstraintData) (count n : ℕ) (key raw : ℕ → RawState) → ((i : ℕ) → i < n → (t : ℕ) × (t < count) × (key t ≡ raw i)) → (i : ℕ) → (i < n) ⊎ (n ≤ i) → ℕ
pick c count n key raw place i (inl inside) = (place i inside).0
pick c count n key raw place i (inr past) = 0

picked : (c : ConstraintData) (count n : ℕ) (key raw : ℕ → RawState) (place : (i : ℕ) → i < n → (t : ℕ) × (t < count) × (key t ≡ raw i)) (i : ℕ)
    (case : (i < n) ⊎ (n ≤ i)) → i < n → (pick c count n key raw place i case < count) × (key (pick c count n key raw place i case) ≡ raw i)
unfolding pick
picked c count n key raw place i (inl inside) i_in = ((place i inside).1, (place i inside).2)
picked c count n key raw place i (inr past) i_in = absurd (omega (arith, past, i_in))

-- so no more raw states of words exist than were found
pub no_more_raws : (c : ConstraintData) (count most : ℕ) (key : ℕ → RawState) (next : ℕ → ℕ → Option ℕ) → IsConstraint c
    → IsNumbered (step_raw c) count key next → 0 < count → key 0 ≡ first_raw_state c → count ≤ most → HaveRawStates c (suc most) → ⊥
no_more_raws c count most key next ranges numbered some root few many =
    let n = suc most in
    let place : (i : ℕ) → i < n → (t : ℕ) × (t < count) × (key t ≡ many.raw i) =
    λ i i_in. let told = many.words i i_in in word_number c count key next ranges numbered some root told.0 (many.raw i) told.1 told.2 in
    let f : ℕ → ℕ = λ i. pick c count n key many.raw place i (cases_lt i n) in
    let known : (i : ℕ) → i < n → (f i < count) × (key (f i) ≡ many.raw i) =
    λ i i_in. picked c count n key many.raw place i (cases_lt i n) i_in in
    pigeons most f
    (λ i i_in. let low = (known i i_in).0 in omega (arith, low, few))
    (λ i j less j_in same.
    let i_in : i < n = omega (arith, less, j_in) in
    many.different i j less j_in (sym (known i i_in).1 ∙ ap key same ∙ (known j j_in).1))

-- The steps of the loops over a row and over the rows, over plain lists.
use Rattle.std.proofs.Common.{◌≡◌, ◌≢◌, ℕ, ◌+◌, ◌<◌, ◌≤◌, inl, inr, List, [], length, get_or, set, refl, sym, ap, ap₂, ◌∙◌, subst, below_more, arith}
use Rattle.std.proofs.lemmas.Bool.{cases_eq, cases_lt}
use Rattle.std.proofs.lemmas.List.{length-map, get_or-set_same, get_or-set_other, get_or_read, get_or_past}
use Rattle.std.proofs.Math.Nat.{le_refl}
use Rattle.gf256.specs.declared.Gf.{Gf}
use Rattle.gf256.specs.Field.{IsElement, plus, times}
use Rattle.gf256.specs.Linear.{values, matrix, scaled}
use Rattle.gf256.specs.Elimination.{AreElements, plus_multiple, matrix_row, entry, ClearsColumn}
use Rattle.gf256.proofs.Lists.{rewritten, rewritten_more, rewritten-all, get_or-rewritten, length-values, get_or-values, values-set, length-plus_multiple, get_or-plus_multiple, get_or-scaled, length-matrix, matrix_row-matrix, entry-matrix, matrix-set}

-- ---- a row

pub length-scaled : (factor : ℕ) (xs : List ℕ) → length (scaled factor xs) ≡ length xs
length-scaled factor xs = length-map xs (λ x. times factor x)

-- an element behind the rewritten ones
value_not_yet : (now old : List Gf) (new : List ℕ) (i : ℕ) (d : Gf) → length now ≡ length old → length new ≡ length old → i < length old → values now ≡ rewritten i new (values old) → (get_or now i d).value ≡ get_or (values old) i 0
value_not_yet now old new i d same same' within so_far =
    let old_length = length-values old in
    sym (get_or-values now i d (omega arith))
    ∙ ap (λ s. get_or s i 0) so_far
    ∙ get_or-rewritten new (values old) i 0 (omega arith) (omega arith)

-- .. is one, where what is read is an element
pub element_more : (now old : List Gf) (new : List ℕ) (i : ℕ) (d : Gf) → length now ≡ length old → length new ≡ length (values old) → i < length old → values now ≡ rewritten i new (values old) → IsElement (get_or now i d).value → ((k : ℕ) → k < i → IsElement (get_or (values old) k 0)) → (k : ℕ) → k < i + 1 → IsElement (get_or (values old) k 0)
element_more now old new i d same same' within so_far element below =
    let old_length = length-values old in
    below_more (λ k. IsElement (get_or (values old) k 0)) i below
    (subst IsElement (value_not_yet now old new i d same (omega arith) within so_far) element)

pub elements_all : (xs : List Gf) (i : ℕ) → length xs ≤ i → ((k : ℕ) → k < i → IsElement (get_or (values xs) k 0)) → AreElements (values xs)
elements_all xs i past below = λ k.
    let xs_length = length-values xs in
    elim (cases_lt k i) as (λ _. IsElement (get_or (values xs) k 0)) [
      | inl inside ↦ below k inside
      | inr outside ↦ let none = get_or_past (values xs) k 0 (omega arith) in omega arith
    ]

pub scaled_more : (now old : List Gf) (factor i : ℕ) (d x : Gf) → length now ≡ length old → i < length old → values now ≡ rewritten i (scaled factor (values old)) (values old) → x.value ≡ times factor (get_or now i d).value → values (set now i x) ≡ rewritten (i + 1) (scaled factor (values old)) (values old)
scaled_more now old factor i d x same within so_far is =
    let old_length = length-values old in
    let new_length = length-scaled factor (values old) in
    values-set now i x
    ∙ ap (λ s. set s i x.value) so_far
    ∙ rewritten_more (scaled factor (values old)) (values old) i 0 x.value (omega arith) (omega arith)
    (is
    ∙ ap (λ y. times factor y) (value_not_yet now old (scaled factor (values old)) i d same (omega arith) within so_far)
    ∙ sym (get_or-scaled factor (values old) i))

pub scaled_all : (now old : List Gf) (factor i : ℕ) → length old ≤ i → values now ≡ rewritten i (scaled factor (values old)) (values old) → values now ≡ scaled factor (values old)
scaled_all now old factor i past so_far =
    let old_length = length-values old in
    let new_length = length-scaled factor (values old) in
    so_far ∙ rewritten-all (scaled factor (values old)) (values old) i (omega arith) (omega arith)

pub plus_multiple_more : (now old other : List Gf) (factor i : ℕ) (d x : Gf) → length now ≡ length old → length old ≡ length other → i < length old → values now ≡ rewritten i (plus_multiple (values old) factor (values other)) (values old) → x.value ≡ plus (get_or now i d).value (times factor (get_or other i d).value) → values (set now i x) ≡ rewritten (i + 1) (plus_multiple (values old) factor (values other)) (values old)
plus_multiple_more now old other factor i d x same widths within so_far is =
    let old_length = length-values old in
    let other_length = length-values other in
    let new : List ℕ = plus_multiple (values old) factor (values other) in
    let new_length : length new ≡ length (values old) = length-plus_multiple (values old) factor (values other) (omega arith) in
    values-set now i x
    ∙ ap (λ s. set s i x.value) so_far
    ∙ rewritten_more new (values old) i 0 x.value (omega arith) (omega arith)
    (is
    ∙ ap₂ (λ y z. plus y (times factor z)) (value_not_yet now old new i d same (omega arith) within so_far)
    (sym (get_or-values other i d (omega arith)))
    ∙ sym (get_or-plus_multiple (values old) factor (values other) i (omega arith)))

pub plus_multiple_all : (now old other : List Gf) (factor i : ℕ) → length old ≡ length other → length old ≤ i → values now ≡ rewritten i (plus_multiple (values old) factor (values other)) (values old) → values now ≡ plus_multiple (values old) factor (values other)
plus_multiple_all now old other factor i widths past so_far =
    let old_length = length-values old in
    let other_length = length-values other in
    let new_length : length (plus_multiple (values old) factor (values other)) ≡ length (values old) = length-plus_multiple (values old) factor (values other) (omega arith) in
    so_far ∙ rewritten-all (plus_multiple (values old) factor (values other)) (values old) i (omega arith) (omega arith)

-- ---- the rows

-- the rows before place i are cleared, the others are as they were
pub record Clearing (column i : ℕ) (old now : List (List ℕ)) : Type 0 where
  pub pivot : matrix_row now column ≡ matrix_row old column
  pub done : (k : ℕ) → k < i → k ≢ column → matrix_row now k ≡ plus_multiple (matrix_row old k) (entry old k column) (matrix_row old column)
  pub widths : (k : ℕ) → k < i → k ≢ column → length (matrix_row old k) ≡ length (matrix_row old column)
  pub elements : (k : ℕ) → k < i → k ≢ column → AreElements (matrix_row old k)
  pub rest : (k : ℕ) → i ≤ k → matrix_row now k ≡ matrix_row old k

pub Clearing-none : (column : ℕ) (rows : List (List ℕ)) → Clearing column 0 rows rows
Clearing-none column rows = record {
  pivot = refl;
  done = λ k h ne. absurd (omega arith);
  widths = λ k h ne. absurd (omega arith);
  elements = λ k h ne. absurd (omega arith);
  rest = λ k h. refl;
}

-- a fact of the places below i but one, and of i
below_more_but : (P : ℕ → Type 0) (column i : ℕ) → ((k : ℕ) → k < i → k ≢ column → P k) → P i → (k : ℕ) → k < i + 1 → k ≢ column → P k
below_more_but P column i below here k h ne =
    elim (cases_eq k i) as (λ _. P k) [
      | inl same ↦ subst P (sym same) here
      | inr elsewhere ↦ below k (omega arith) ne
    ]

Clearing-more_other : (column i : ℕ) (old now : List (List ℕ)) (row : List ℕ) → length now ≡ length old → i < length old → i ≢ column → row ≡ plus_multiple (matrix_row old i) (entry old i column) (matrix_row old column) → length (matrix_row old i) ≡ length (matrix_row old column) → AreElements (matrix_row old i) → Clearing column i old now → Clearing column (i + 1) old (set now i row)
Clearing-more_other column i old now row same within ne is width elements so_far = record {
  pivot = get_or-set_other now i column row [] (λ e. ne (sym e)) ∙ so_far.pivot;
  done =
      below_more_but (λ k. matrix_row (set now i row) k ≡ plus_multiple (matrix_row old k) (entry old k column) (matrix_row old column)) column i
      (λ k h k_ne. get_or-set_other now i k row [] (omega arith) ∙ so_far.done k h k_ne)
      (get_or-set_same now i row [] (omega arith) ∙ is);
  widths = below_more_but (λ k. length (matrix_row old k) ≡ length (matrix_row old column)) column i so_far.widths width;
  elements = below_more_but (λ k. AreElements (matrix_row old k)) column i so_far.elements elements;
  rest = λ k h. get_or-set_other now i k row [] (omega arith) ∙ so_far.rest k (omega arith);
}

-- .. of rows of elements, from what `add_multiple` leaves
pub Clearing-more_added : (column i : ℕ) (old now : List (List Gf)) (row pivot : List Gf) → length now ≡ length old → i < length old → column < length old → i ≢ column → pivot ≡ get_or old column pivot → length (get_or now i []) ≡ length pivot → AreElements (values (get_or now i [])) → values row ≡ plus_multiple (values (get_or now i [])) (get_or (get_or now i []) column (record { value = 0 })).value (values pivot) → Clearing column i (matrix old) (matrix now) → Clearing column (i + 1) (matrix old) (matrix (set now i row))
Clearing-more_added column i old now row pivot same within below ne pivot_is width elements row_is so_far =
    let old_length = length-matrix old in
    let now_length = length-matrix now in
    let unchanged : matrix_row (matrix now) i ≡ matrix_row (matrix old) i = so_far.rest i (le_refl i) in
    let pivot_row : values pivot ≡ matrix_row (matrix old) column =
    ap values (get_or_read old column pivot below pivot_is []) ∙ sym (matrix_row-matrix old column) in
    let this_row : values (get_or now i []) ≡ matrix_row (matrix old) i = sym (matrix_row-matrix now i) ∙ unchanged in
    let factor : (get_or (get_or now i []) column (record { value = 0 })).value ≡ entry (matrix old) i column =
    sym (entry-matrix now i column) ∙ ap (λ r. get_or r column 0) unchanged in
    let is : values row ≡ plus_multiple (matrix_row (matrix old) i) (entry (matrix old) i column) (matrix_row (matrix old) column) =
    row_is
    ∙ ap (λ r. plus_multiple r (get_or (get_or now i []) column (record { value = 0 })).value (values pivot)) this_row
    ∙ ap₂ (λ f r. plus_multiple (matrix_row (matrix old) i) f r) factor pivot_row in
    let same_width : length (matrix_row (matrix old) i) ≡ length (matrix_row (matrix old) column) =
    sym (ap (λ (r : List ℕ). length r) this_row) ∙ length-values (get_or now i []) ∙ width ∙ sym (length-values pivot) ∙ ap (λ (r : List ℕ). length r) pivot_row in
    subst (λ rows. Clearing column (i + 1) (matrix old) rows) (sym (matrix-set now i row))
    (Clearing-more_other column i (matrix old) (matrix now) (values row) (omega arith) (omega arith) ne is same_width (subst AreElements this_row elements) so_far)

pub Clearing-more_pivot : (column i : ℕ) (old now : List (List ℕ)) → i ≡ column → Clearing column i old now → Clearing column (i + 1) old now
Clearing-more_pivot column i old now e so_far =
    let before : (k : ℕ) → k < i + 1 → k ≢ column → k < i = λ k h ne. (let elsewhere : k ≢ i = λ same. ne (same ∙ e) in omega arith) in
    record {
      pivot = so_far.pivot;
      done = λ k h ne. so_far.done k (before k h ne) ne;
      widths = λ k h ne. so_far.widths k (before k h ne) ne;
      elements = λ k h ne. so_far.elements k (before k h ne) ne;
      rest = λ k h. so_far.rest k (omega arith);
    }

pub Clearing-all : (column i : ℕ) (old now : List (List ℕ)) → length now ≡ length old → length old ≤ i → Clearing column i old now → ClearsColumn column old now
Clearing-all column i old now same past so_far = record {
  same_length = same;
  pivot = so_far.pivot;
  others = λ k h ne. so_far.done k (omega arith) ne;
  widths = λ k h ne. so_far.widths k (omega arith) ne;
  elements = λ k h ne. so_far.elements k (omega arith) ne;
}

-- How one step of elimination makes the next column a unit column.
use Rattle.std.proofs.Common.{◌≡◌, ◌≢◌, ℕ, ◌+◌, ◌<◌, ◌≤◌, inl, inr, cond, eqb, List, [], length, get_or, set, sym, ap, ◌∙◌, subst, arith}
use Rattle.std.specs.List.{swap}
use Rattle.std.proofs.lemmas.Bool.{cases_eq, cases_lt, cond-true, cond-false, eq-eqb, ne_eqb}
use Rattle.std.proofs.lemmas.List.{get_or-set_same, get_or-set_other, get_or_past, length-set}
use Rattle.std.proofs.lemmas.List.Edits.{swapped_from_swap, length-swap}
use Rattle.gf256.specs.declared.Gf.{Gf}
use Rattle.gf256.specs.Field.{IsElement, plus, times, IsProduct}
use Rattle.gf256.specs.Linear.{matrix, values, scaled}
use Rattle.gf256.specs.Elimination.{AreElements, HasElements, matrix_row, entry, ClearsColumn, Eliminates, HasUnitColumns, SameNullSpace}
use Rattle.gf256.proofs.Lists.{length-matrix, matrix_row-matrix, entry-matrix, matrix-set, get_or-scaled, get_or-plus_multiple}
use Rattle.gf256.proofs.NullSpaces.{Exchanges, Exchanges-SameNullSpace, scaled-SameNullSpace, ClearsColumn-SameNullSpace, SameNullSpace-chain}
use Rattle.gf256.proofs.FieldLaws.{plus-lt, plus-zero, plus_self, times-lt, times-zero, times-one, times_comm, IsProduct-times, IsProduct-single, one_not_zero}

-- the entry of a unit column
abbrev pub unit : ℕ → ℕ → ℕ
unit i j = cond (eqb i j) 1 0

pub unit-same : (i j : ℕ) → i ≡ j → unit i j ≡ 1
unit-same i j e = cond-true (eqb i j) 1 0 (eq-eqb i j e)

pub unit-other : (i j : ℕ) → i ≢ j → unit i j ≡ 0
unit-other i j ne = cond-false (eqb i j) 1 0 (ne_eqb i j ne)

-- ---- the pivot's row comes to the place of the column

pub Exchanges-matrix : (a b : ℕ) (old new : List (List Gf)) → a < length old → b < length old → new ≡ swap old a b → Exchanges a b (matrix old) (matrix new)
Exchanges-matrix a b old new a_in b_in is =
    let swapped = swapped_from_swap old new a b [] a_in b_in is in
    let row : (i j : ℕ) → get_or new i [] ≡ get_or old j [] → matrix_row (matrix new) i ≡ matrix_row (matrix old) j =
    λ i j e. matrix_row-matrix new i ∙ ap values e ∙ sym (matrix_row-matrix old j) in
    record {
      same_length = length-matrix new ∙ ap (λ (rows : List (List Gf)). length rows) is ∙ length-swap old a b ∙ sym (length-matrix old);
      first = row a b swapped.0;
      second = row b a swapped.1;
      others = λ i not_a not_b. row i i (swapped.2 i not_a not_b);
    }

Exchanges-HasUnitColumns : (c b : ℕ) (old new : List (List ℕ)) → c ≤ b → b < length old → Exchanges c b old new → HasUnitColumns c old → HasUnitColumns c new
Exchanges-HasUnitColumns c b old new from b_in e units = λ i j i_in j_in.
    let same = e.same_length in
    let zero_from : (k l : ℕ) → c ≤ k → k < length old → c ≤ l → entry old k j ≡ unit l j =
    λ k l k_from k_in l_from. units k j k_in j_in ∙ unit-other k j (omega arith) ∙ sym (unit-other l j (omega arith)) in
    elim (cases_eq i c) as (λ _. entry new i j ≡ unit i j) [
      | inl at_c ↦ ap (λ k. entry new k j) at_c ∙ ap (λ r. get_or r j 0) e.first ∙ zero_from b i from b_in (omega arith)
      | inr not_c ↦ elim (cases_eq i b) as (λ _. entry new i j ≡ unit i j) [
        | inl at_b ↦ ap (λ k. entry new k j) at_b ∙ ap (λ r. get_or r j 0) e.second ∙ zero_from c i (omega arith) (omega arith) (omega arith)
        | inr not_b ↦ ap (λ r. get_or r j 0) (e.others i not_c not_b) ∙ units i j (omega arith) j_in
      ]
    ]

-- ---- the pivot becomes 1

scaled-HasUnitColumns : (rows : List (List ℕ)) (c factor : ℕ) → c < length rows → HasUnitColumns c rows → HasUnitColumns c (set rows c (scaled factor (matrix_row rows c)))
scaled-HasUnitColumns rows c factor c_in units = λ i j i_in j_in.
    let row = matrix_row rows c in
    let new = set rows c (scaled factor row) in
    let same : length new ≡ length rows = length-set rows c (scaled factor row) in
    elim (cases_eq i c) as (λ _. entry new i j ≡ unit i j) [
      | inl at_c ↦
          ap (λ k. entry new k j) at_c
          ∙ ap (λ r. get_or r j 0) (get_or-set_same rows c (scaled factor row) [] c_in)
          ∙ get_or-scaled factor row j
          ∙ ap (λ s. times factor s) (units c j c_in j_in ∙ unit-other c j (omega arith))
          ∙ times-zero factor
          ∙ sym (unit-other i j (omega arith))
      | inr not_c ↦
          ap (λ r. get_or r j 0) (get_or-set_other rows c i (scaled factor row) [] not_c) ∙ units i j (omega arith) j_in
    ]

scaled-pivot : (rows : List (List ℕ)) (c factor : ℕ) → c < length rows → IsProduct (entry rows c c) factor 1 → entry (set rows c (scaled factor (matrix_row rows c))) c c ≡ 1
scaled-pivot rows c factor c_in product =
    ap (λ r. get_or r c 0) (get_or-set_same rows c (scaled factor (matrix_row rows c)) [] c_in)
    ∙ get_or-scaled factor (matrix_row rows c) c
    ∙ times_comm factor (entry rows c c)
    ∙ IsProduct-single (entry rows c c) factor (times (entry rows c c) factor) 1 (IsProduct-times (entry rows c c) factor) product

-- ---- the column is cleared

ClearsColumn-HasUnitColumns : (c : ℕ) (old new : List (List ℕ)) → c < length old → ClearsColumn c old new → entry old c c ≡ 1 → HasUnitColumns c old → HasUnitColumns (c + 1) new
ClearsColumn-HasUnitColumns c old new c_in clears one units = λ i j i_in j_in.
    let same = clears.same_length in
    elim (cases_eq i c) as (λ _. entry new i j ≡ unit i j) [
      | inl at_c ↦
          ap (λ k. entry new k j) at_c
          ∙ ap (λ r. get_or r j 0) clears.pivot
          ∙ (elim (cases_eq j c) as (λ _. entry old c j ≡ unit i j) [
            | inl j_at ↦ ap (λ k. entry old c k) j_at ∙ one ∙ sym (unit-same i j (omega arith))
            | inr j_not ↦ units c j c_in (omega arith) ∙ ap (λ k. unit k j) (sym at_c)
          ])
      | inr not_c ↦
          ap (λ r. get_or r j 0) (clears.others i (omega arith) not_c)
          ∙ get_or-plus_multiple (matrix_row old i) (entry old i c) (matrix_row old c) j (clears.widths i (omega arith) not_c)
          ∙ (elim (cases_eq j c) as (λ _. plus (entry old i j) (times (entry old i c) (entry old c j)) ≡ unit i j) [
            | inl j_at ↦
                ap (λ k. plus (entry old i k) (times (entry old i c) (entry old c k))) j_at
                ∙ ap (λ s. plus (entry old i c) (times (entry old i c) s)) one
                ∙ ap (λ s. plus (entry old i c) s) (times-one (entry old i c) (clears.elements i (omega arith) not_c c))
                ∙ plus_self (entry old i c)
                ∙ sym (unit-other i j (omega arith))
            | inr j_not ↦
                ap (λ s. plus (entry old i j) (times (entry old i c) s)) (units c j c_in (omega arith) ∙ unit-other c j (omega arith))
                ∙ ap (λ s. plus (entry old i j) s) (times-zero (entry old i c))
                ∙ plus-zero (entry old i j)
                ∙ units i j (omega arith) (omega arith)
          ])
    ]

-- ---- the whole step

-- a pivot in row b of column c, brought to row c, made 1, and taken out of the other rows
pub record EliminatesColumn (c b factor : ℕ) (old swapped new : List (List ℕ)) : Type 0 where
  pub from : c ≤ b
  pub within : b < length old
  pub exchanges : Exchanges c b old swapped
  pub factor_in : IsElement factor
  pub product : IsProduct (entry swapped c c) factor 1
  pub pivot_elements : AreElements (matrix_row swapped c)
  pub clears : ClearsColumn c (set swapped c (scaled factor (matrix_row swapped c))) new

factor-ne-zero : (a factor : ℕ) → IsProduct a factor 1 → factor ≢ 0
factor-ne-zero a factor product e =
    one_not_zero (times a factor)
    (IsProduct-single a factor (times a factor) 1 (IsProduct-times a factor) product)
    (ap (λ s. times a s) e ∙ times-zero a)

EliminatesColumn-SameNullSpace : (c b factor : ℕ) (old swapped new : List (List ℕ)) → EliminatesColumn c b factor old swapped new → SameNullSpace old new
EliminatesColumn-SameNullSpace c b factor old swapped new h =
    let from = h.from in
    let within = h.within in
    let same = h.exchanges.same_length in
    let scaled_rows = set swapped c (scaled factor (matrix_row swapped c)) in
    let scaled_length : length scaled_rows ≡ length swapped = length-set swapped c (scaled factor (matrix_row swapped c)) in
    SameNullSpace-chain old swapped new
    (Exchanges-SameNullSpace c b old swapped (omega arith) within h.exchanges)
    (SameNullSpace-chain swapped scaled_rows new
    (scaled-SameNullSpace swapped c factor (omega arith) h.factor_in (factor-ne-zero (entry swapped c c) factor h.product))
    (ClearsColumn-SameNullSpace c scaled_rows new (omega arith) h.clears))

EliminatesColumn-HasUnitColumns : (c b factor : ℕ) (old swapped new : List (List ℕ)) → EliminatesColumn c b factor old swapped new → HasUnitColumns c old → HasUnitColumns (c + 1) new
EliminatesColumn-HasUnitColumns c b factor old swapped new h units =
    let from = h.from in
    let within = h.within in
    let same = h.exchanges.same_length in
    let scaled_rows = set swapped c (scaled factor (matrix_row swapped c)) in
    let scaled_length : length scaled_rows ≡ length swapped = length-set swapped c (scaled factor (matrix_row swapped c)) in
    ClearsColumn-HasUnitColumns c scaled_rows new (omega arith) h.clears
    (scaled-pivot swapped c factor (omega arith) h.product)
    (scaled-HasUnitColumns swapped c factor (omega arith) (Exchanges-HasUnitColumns c b old swapped from within h.exchanges units))

row_past : (rows : List (List ℕ)) (i : ℕ) → length rows ≤ i → AreElements (matrix_row rows i)
row_past rows i past =
    subst AreElements (sym (get_or_past rows i [] past)) (λ k. (omega arith))

-- every row was read, so every row holds elements ..
EliminatesColumn-swapped : (c b factor : ℕ) (old swapped new : List (List ℕ)) → EliminatesColumn c b factor old swapped new → HasElements swapped
EliminatesColumn-swapped c b factor old swapped new h = λ i.
    let scaled_row = scaled factor (matrix_row swapped c) in
    let scaled_length : length (set swapped c scaled_row) ≡ length swapped = length-set swapped c scaled_row in
    elim (cases_eq i c) as (λ _. AreElements (matrix_row swapped i)) [
      | inl at_c ↦ subst (λ k. AreElements (matrix_row swapped k)) (sym at_c) h.pivot_elements
      | inr not_c ↦ elim (cases_lt i (length swapped)) as (λ _. AreElements (matrix_row swapped i)) [
        | inl inside ↦ subst AreElements (get_or-set_other swapped c i scaled_row [] not_c) (h.clears.elements i (omega arith) not_c)
        | inr past ↦ row_past swapped i past
      ]
    ]

EliminatesColumn-before : (c b factor : ℕ) (old swapped new : List (List ℕ)) → EliminatesColumn c b factor old swapped new → HasElements old
EliminatesColumn-before c b factor old swapped new h = λ i.
    let elements = EliminatesColumn-swapped c b factor old swapped new h in
    elim (cases_eq i c) as (λ _. AreElements (matrix_row old i)) [
      | inl at_c ↦ subst (λ k. AreElements (matrix_row old k)) (sym at_c) (subst AreElements h.exchanges.second (elements b))
      | inr not_c ↦ elim (cases_eq i b) as (λ _. AreElements (matrix_row old i)) [
        | inl at_b ↦ subst (λ k. AreElements (matrix_row old k)) (sym at_b) (subst AreElements h.exchanges.first (elements c))
        | inr not_b ↦ subst AreElements (h.exchanges.others i not_c not_b) (elements i)
      ]
    ]

-- .. and still does
EliminatesColumn-after : (c b factor : ℕ) (old swapped new : List (List ℕ)) → EliminatesColumn c b factor old swapped new → HasElements new
EliminatesColumn-after c b factor old swapped new h = λ i.
    let from = h.from in
    let within = h.within in
    let same = h.exchanges.same_length in
    let scaled_row = scaled factor (matrix_row swapped c) in
    let rows = set swapped c scaled_row in
    let rows_length : length rows ≡ length swapped = length-set swapped c scaled_row in
    let new_length = h.clears.same_length in
    let pivot : AreElements scaled_row = λ k. subst IsElement (sym (get_or-scaled factor (matrix_row swapped c) k)) (times-lt factor (get_or (matrix_row swapped c) k 0)) in
    elim (cases_eq i c) as (λ _. AreElements (matrix_row new i)) [
      | inl at_c ↦
          subst (λ k. AreElements (matrix_row new k)) (sym at_c)
          (subst AreElements (sym (h.clears.pivot ∙ get_or-set_same swapped c scaled_row [] (omega arith))) pivot)
      | inr not_c ↦ elim (cases_lt i (length rows)) as (λ _. AreElements (matrix_row new i)) [
        | inl inside ↦
            subst AreElements (sym (h.clears.others i inside not_c))
            (λ k.
            subst IsElement (sym (get_or-plus_multiple (matrix_row rows i) (entry rows i c) (matrix_row rows c) k (h.clears.widths i inside not_c)))
            (plus-lt (entry rows i k) (times (entry rows i c) (entry rows c k)) (h.clears.elements i inside not_c k) (times-lt (entry rows i c) (entry rows c k))))
        | inr past ↦ row_past new i (omega arith)
      ]
    ]

-- .. from what the calls of `eliminate` ensure
pub EliminatesColumn-from : (c b factor : ℕ) (old swapped new : List (List Gf)) (row : List Gf) → c ≤ b → b < length old → swapped ≡ swap old c b → IsElement factor → IsProduct (get_or (get_or swapped c []) c (record { value = 0 })).value factor 1 → values row ≡ scaled factor (values (get_or swapped c [])) → AreElements (values (get_or swapped c [])) → ClearsColumn c (matrix (set swapped c row)) (matrix new) → EliminatesColumn c b factor (matrix old) (matrix swapped) (matrix new)
EliminatesColumn-from c b factor old swapped new row from within is factor_in product row_is elements clears =
    let old_length = length-matrix old in
    record {
      from = from;
      within = omega arith;
      exchanges = Exchanges-matrix c b old swapped (omega arith) within is;
      factor_in = factor_in;
      product = subst (λ a. IsProduct a factor 1) (sym (entry-matrix swapped c c)) product;
      pivot_elements = subst AreElements (sym (matrix_row-matrix swapped c)) elements;
      clears =
          subst (λ rows. ClearsColumn c rows (matrix new))
          (matrix-set swapped c row ∙ ap (λ r. set (matrix swapped) c r) (row_is ∙ ap (λ r. scaled factor r) (sym (matrix_row-matrix swapped c))))
          clears;
    }

pub EliminatesColumn-Eliminates : (c b factor : ℕ) (old swapped new : List (List ℕ)) → EliminatesColumn c b factor old swapped new → Eliminates c old new
EliminatesColumn-Eliminates c b factor old swapped new h = record {
  null_space = EliminatesColumn-SameNullSpace c b factor old swapped new h;
  units = EliminatesColumn-HasUnitColumns c b factor old swapped new h;
  elements_before = EliminatesColumn-before c b factor old swapped new h;
  elements = EliminatesColumn-after c b factor old swapped new h;
}

-- From a reduced matrix: a vector that it annihilates, and the one solution where every column is a unit column.
use Rattle.std.proofs.Common.{◌≡◌, ◌≢◌, ℕ, zero, suc, ◌+◌, ◌<◌, ◌≤◌, inl, inr, List, [], ◌∷◌, length, get_or, set, take, replicate, refl, sym, ap, ap₂, ◌∙◌, subst, arith}
use Rattle.std.proofs.lemmas.Bool.{cases_eq, cases_lt, cases_order}
use Rattle.std.proofs.lemmas.List.{get_or-set_same, get_or-set_other, get_or-take, length-set, length-take-le, take-map, get_or_read}
use Rattle.std.proofs.lemmas.List.Elements.{All-from_get_or}
use Rattle.gf256.specs.declared.Gf.{Gf}
use Rattle.gf256.specs.Field.{IsElement, plus, times}
use Rattle.gf256.specs.Linear.{values, matrix, dot, IsVector, IsNonzero, Annihilates}
use Rattle.gf256.specs.Elimination.{AreElements, HasElements, matrix_row, entry, CopiesColumn, SameNullSpace, HasUnitColumns, IsZeroBelow}
use Rattle.gf256.proofs.Lists.{length-values, length-matrix, entry-matrix, values-set}
use Rattle.gf256.proofs.NullSpaces.{Annihilates-from}
use Rattle.gf256.proofs.UnitColumns.{unit-same, unit-other}
use Rattle.gf256.proofs.FieldLaws.{plus-zero, zero-plus, plus_self, times-zero, zero-times, times-one, one-times}

-- ---- dot products with few terms that are not 0

pub dot-none : (xs v : List ℕ) → ((j : ℕ) → times (get_or xs j 0) (get_or v j 0) ≡ 0) → dot xs v ≡ 0
dot-none [] v h = refl
dot-none (x ∷ xs) [] h = refl
dot-none (x ∷ xs) (y ∷ v) h = ap₂ (λ s t. plus s t) (h 0) (dot-none xs v (λ j. h (suc j))) ∙ plus-zero 0

pub dot-one : (i : ℕ) (xs v : List ℕ) → ((j : ℕ) → j ≢ i → times (get_or xs j 0) (get_or v j 0) ≡ 0) → dot xs v ≡ times (get_or xs i 0) (get_or v i 0)
dot-one i [] v h = sym (zero-times (get_or v i 0))
dot-one i (x ∷ xs) [] h = sym (times-zero (get_or (x ∷ xs) i 0))
dot-one zero (x ∷ xs) (y ∷ v) h =
    ap (λ s. plus (times x y) s) (dot-none xs v (λ j. h (suc j) (omega arith))) ∙ plus-zero (times x y)
dot-one (suc i) (x ∷ xs) (y ∷ v) h =
    ap₂ (λ s t. plus s t) (h 0 (omega arith)) (dot-one i xs v (λ j ne. h (suc j) (omega arith)))
    ∙ zero-plus (times (get_or xs i 0) (get_or v i 0))

pub dot-two : (i c : ℕ) (xs v : List ℕ) → i < c → ((j : ℕ) → j ≢ i → j ≢ c → times (get_or xs j 0) (get_or v j 0) ≡ 0) → dot xs v ≡ plus (times (get_or xs i 0) (get_or v i 0)) (times (get_or xs c 0) (get_or v c 0))
dot-two i c [] v below h =
    sym (ap₂ (λ s t. plus s t) (zero-times (get_or v i 0)) (zero-times (get_or v c 0)) ∙ plus-zero 0)
dot-two i c (x ∷ xs) [] below h =
    sym (ap₂ (λ s t. plus s t) (times-zero (get_or (x ∷ xs) i 0)) (times-zero (get_or (x ∷ xs) c 0)) ∙ plus-zero 0)
dot-two i zero (x ∷ xs) (y ∷ v) below h = absurd (omega arith)
dot-two zero (suc c) (x ∷ xs) (y ∷ v) below h =
    ap (λ s. plus (times x y) s) (dot-one c xs v (λ j ne. h (suc j) (omega arith) (omega arith)))
dot-two (suc i) (suc c) (x ∷ xs) (y ∷ v) below h =
    ap₂ (λ s t. plus s t) (h 0 (omega arith) (omega arith)) (dot-two i c xs v (omega arith) (λ j ne ne'. h (suc j) (omega arith) (omega arith)))
    ∙ zero-plus (plus (times (get_or xs i 0) (get_or v i 0)) (times (get_or xs c 0) (get_or v c 0)))

pub zero_left : (x y : ℕ) → x ≡ 0 → times x y ≡ 0
zero_left x y e = ap (λ s. times s y) e ∙ zero-times y

pub zero_right : (x y : ℕ) → y ≡ 0 → times x y ≡ 0
zero_right x y e = ap (λ s. times x s) e ∙ times-zero x

-- ---- rows of a matrix with c unit columns, against a vector that is 0 behind place c

-- v is 1 at place c and 0 behind it
pub record EndsAt (c : ℕ) (v : List ℕ) : Type 0 where
  pub one : get_or v c 0 ≡ 1
  pub zeros : (j : ℕ) → c < j → get_or v j 0 ≡ 0

pub unit_row-dot : (c i : ℕ) (m : List (List ℕ)) (v : List ℕ) → HasUnitColumns c m → EndsAt c v → i < length m → i < c → IsElement (get_or v i 0) → IsElement (entry m i c) → dot (matrix_row m i) v ≡ plus (get_or v i 0) (entry m i c)
unit_row-dot c i m v units ends i_in below v_in e_in =
    let row = matrix_row m i in
    let others : (j : ℕ) → j ≢ i → j ≢ c → times (get_or row j 0) (get_or v j 0) ≡ 0 = λ j not_i not_c.
    elim (cases_lt j c) as (λ _. times (get_or row j 0) (get_or v j 0) ≡ 0) [
      | inl front ↦ zero_left (get_or row j 0) (get_or v j 0) (units i j i_in front ∙ unit-other i j (λ e. not_i (sym e)))
      | inr behind ↦ zero_right (get_or row j 0) (get_or v j 0) (ends.zeros j (omega arith))
    ] in
    dot-two i c row v below others
    ∙ ap₂ (λ s t. plus s t)
    (ap (λ s. times s (get_or v i 0)) (units i i i_in below ∙ unit-same i i refl) ∙ one-times (get_or v i 0) v_in)
    (ap (λ s. times (entry m i c) s) ends.one ∙ times-one (entry m i c) e_in)

rest_row-dot : (c i : ℕ) (m : List (List ℕ)) (v : List ℕ) → HasUnitColumns c m → IsZeroBelow c m → EndsAt c v → i < length m → c ≤ i → dot (matrix_row m i) v ≡ 0
rest_row-dot c i m v units zero_below ends i_in from =
    let row = matrix_row m i in
    let all : (j : ℕ) → times (get_or row j 0) (get_or v j 0) ≡ 0 = λ j.
    elim (cases_order j c) as (λ _. times (get_or row j 0) (get_or v j 0) ≡ 0) [
      | inl here ↦ zero_left (get_or row j 0) (get_or v j 0) (ap (λ k. get_or row k 0) here ∙ zero_below i from)
      | inr apart ↦ elim apart as (λ _. times (get_or row j 0) (get_or v j 0) ≡ 0) [
        | inl front ↦ zero_left (get_or row j 0) (get_or v j 0) (units i j i_in front ∙ unit-other i j (omega arith))
        | inr behind ↦ zero_right (get_or row j 0) (get_or v j 0) (ends.zeros j behind)
      ]
    ] in
    dot-none row v all

-- ---- the vector that elimination names

-- v has column c of the matrix in front of its last 1
pub record IsColumnVector (c : ℕ) (m : List (List ℕ)) (v : List ℕ) : Type 0 where
  pub ends : EndsAt c v
  pub front : (k : ℕ) → k < c → get_or v k 0 ≡ entry m k c

pub IsColumnVector-Annihilates : (c : ℕ) (m : List (List ℕ)) (v : List ℕ) → HasUnitColumns c m → IsZeroBelow c m → (0 < c → HasElements m) → IsColumnVector c m v → Annihilates m v
IsColumnVector-Annihilates c m v units zero_below elements column =
    Annihilates-from m v (λ i i_in.
    elim (cases_lt i c) as (λ _. dot (matrix_row m i) v ≡ 0) [
      | inl below ↦
          let e_in : IsElement (entry m i c) = elements (omega arith) i c in
          let same : get_or v i 0 ≡ entry m i c = column.front i below in
          unit_row-dot c i m v units column.ends i_in below (omega arith) e_in
          ∙ ap (λ s. plus s (entry m i c)) same
          ∙ plus_self (entry m i c)
      | inr from ↦ rest_row-dot c i m v units zero_below column.ends i_in from
    ])

IsColumnVector-AreElements : (c : ℕ) (m : List (List ℕ)) (v : List ℕ) → (0 < c → HasElements m) → IsColumnVector c m v → AreElements v
IsColumnVector-AreElements c m v elements column = λ k.
    elim (cases_order k c) as (λ _. IsElement (get_or v k 0)) [
      | inl here ↦ subst (λ j. IsElement (get_or v j 0)) (sym here) (let one = column.ends.one in omega arith)
      | inr apart ↦ elim apart as (λ _. IsElement (get_or v k 0)) [
        | inl front ↦ subst IsElement (sym (column.front k front)) (elements (omega arith) k c)
        | inr behind ↦ let none = column.ends.zeros k behind in omega arith
      ]
    ]

pub IsColumnVector-IsVector : (c n r : ℕ) (m : List (List ℕ)) (v : List ℕ) → length v ≡ n → c < r → (0 < c → HasElements m) → IsColumnVector c m v → IsVector n r v
IsColumnVector-IsVector c n r m v full below elements column = record {
  full = full;
  elements = All-from_get_or IsElement v 0 (λ i i_in. IsColumnVector-AreElements c m v elements column i);
  zeros = λ j h. column.ends.zeros j (omega arith);
}

pub IsColumnVector-IsNonzero : (c : ℕ) (m : List (List ℕ)) (v : List ℕ) → IsColumnVector c m v → IsNonzero v
IsColumnVector-IsNonzero c m v column = (c, λ e. (let one = column.ends.one in omega arith))

-- ---- a column copied

pub CopiesColumn-more : (column i : ℕ) (rows : List (List Gf)) (old now : List Gf) (row : List Gf) → length now ≡ length old → i < length rows → length rows ≤ length old → row ≡ get_or rows i row → CopiesColumn column (take i (matrix rows)) (values old) (values now) → CopiesColumn column (take (i + 1) (matrix rows)) (values old) (values (set now i (get_or row column (record { value = 0 }))))
CopiesColumn-more column i rows old now row same within room row_is so_far =
    let x : Gf = get_or row column (record { value = 0 }) in
    let m : List (List ℕ) = matrix rows in
    let m_length = length-matrix rows in
    let now_length = length-values now in
    let old_length = length-values old in
    let changed : values (set now i x) ≡ set (values now) i x.value = values-set now i x in
    let set_length : length (set (values now) i x.value) ≡ length (values now) = length-set (values now) i x.value in
    let value : x.value ≡ entry m i column =
    ap (λ (r : List Gf). (get_or r column (record { value = 0 })).value) (get_or_read rows i row within row_is [])
    ∙ sym (entry-matrix rows i column) in
    let taken : (n k : ℕ) → k < n → entry (take n m) k column ≡ entry m k column = λ n k h. ap (λ r. get_or r column 0) (get_or-take n m k [] h) in
    let front_length : length (take i m) ≡ i = length-take-le i m (omega arith) in
    let more_length : length (take (i + 1) m) ≡ i + 1 = length-take-le (i + 1) m (omega arith) in
    subst (λ s. CopiesColumn column (take (i + 1) m) (values old) s) (sym changed)
    (record {
      same_length = set_length ∙ so_far.same_length;
      front = λ k h.
          elim (cases_eq k i) as (λ _. get_or (set (values now) i x.value) k 0 ≡ entry (take (i + 1) m) k column) [
            | inl here ↦
                ap (λ j. get_or (set (values now) i x.value) j 0) here
                ∙ get_or-set_same (values now) i x.value 0 (omega arith)
                ∙ value
                ∙ ap (λ j. entry m j column) (sym here)
                ∙ sym (taken (i + 1) k (omega arith))
            | inr elsewhere ↦
                get_or-set_other (values now) i k x.value 0 elsewhere
                ∙ so_far.front k (omega arith)
                ∙ taken i k (omega arith)
                ∙ sym (taken (i + 1) k (omega arith))
          ];
      rest = λ k h. get_or-set_other (values now) i k x.value 0 (omega arith) ∙ so_far.rest k (omega arith);
    })

pub zeros_read : (n j : ℕ) → get_or {A = ℕ} (replicate n 0) j 0 ≡ 0
zeros_read zero j = refl
zeros_read (suc n) zero = refl
zeros_read (suc n) (suc j) = zeros_read n j

-- .. over zeros, and the last 1 behind it
pub CopiesColumn-IsColumnVector : (c n : ℕ) (m : List (List Gf)) (now : List Gf) → c ≤ length m → c < n → length now ≡ n → CopiesColumn c (matrix (take c m)) (replicate n 0) (values now) → IsColumnVector c (matrix m) (values (set now c (record { value = 1 })))
CopiesColumn-IsColumnVector c n m now within room full copies =
    let changed : values (set now c (record { value = 1 })) ≡ set (values now) c 1 = values-set now c (record { value = 1 }) in
    let now_length = length-values now in
    let m_length = length-matrix m in
    let taken : take c (matrix m) ≡ matrix (take c m) = take-map values c m in
    let rows_length : length (matrix (take c m)) ≡ c = ap (λ (s : List (List ℕ)). length s) (sym taken) ∙ length-take-le c (matrix m) (omega arith) in
    subst (λ s. IsColumnVector c (matrix m) s) (sym changed)
    (record {
      ends = record {
        one = get_or-set_same (values now) c 1 0 (omega arith);
        zeros = λ j h.
            get_or-set_other (values now) c j 1 0 (omega arith) ∙ copies.rest j (omega arith) ∙ zeros_read n j;
      };
      front = λ k h.
          get_or-set_other (values now) c k 1 0 (omega arith)
          ∙ copies.front k (omega arith)
          ∙ ap (λ (s : List (List ℕ)). entry s k c) (sym taken)
          ∙ ap (λ r. get_or r c 0) (get_or-take c (matrix m) k [] h);
    })

-- what `null_vector` promises of its answer, of n places
pub record IsNullVector (n t : ℕ) (rows : List (List ℕ)) (v : List ℕ) : Type 0 where
  pub vector : IsVector n (t + 1) v
  pub nonzero : IsNonzero v
  pub annihilated : Annihilates (take t rows) v

pub IsNullVector-from : (n t c : ℕ) (old reduced : List (List Gf)) (copied : List Gf) → length reduced ≡ t → c ≤ t → t < n → length copied ≡ n → SameNullSpace (matrix (take t old)) (matrix reduced) → HasUnitColumns c (matrix reduced) → IsZeroBelow c (matrix reduced) → (0 < c → HasElements (matrix reduced)) → CopiesColumn c (matrix (take c reduced)) (replicate n 0) (values copied) → IsNullVector n t (matrix old) (values (set copied c (record { value = 1 })))
IsNullVector-from n t c old reduced copied rows within room full same units zero_below elements copies =
    let vector : List Gf = set copied c (record { value = 1 }) in
    let v : List ℕ = values vector in
    let v_full : length v ≡ n = length-values vector ∙ length-set copied c (record { value = 1 }) ∙ full in
    let column : IsColumnVector c (matrix reduced) v =
    CopiesColumn-IsColumnVector c n reduced copied (omega arith) (omega arith) full copies in
    record {
      vector = IsColumnVector-IsVector c n (t + 1) (matrix reduced) v v_full (omega arith) elements column;
      nonzero = IsColumnVector-IsNonzero c (matrix reduced) v column;
      annihilated =
          subst (λ m. Annihilates m v) (sym (take-map values t old))
          ((same v).1 (IsColumnVector-Annihilates c (matrix reduced) v units zero_below elements column));
    }

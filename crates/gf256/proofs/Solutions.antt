-- The solutions of a system through elimination: equations as a vector that the rows annihilate.
use Rattle.std.proofs.Common.{◌≡◌, ◌≢◌, ℕ, zero, suc, ◌+◌, ◌<◌, ◌≤◌, inl, inr, cond, ltb, List, [], ◌∷◌, ◌++◌, map, length, get_or, take, replicate, refl, sym, ap, ap₂, ◌∙◌, subst, arith}
use Rattle.std.proofs.lemmas.Bool.{cases_lt, cond-true, cond-false, lt-ltb, le-ltb}
use Rattle.std.proofs.lemmas.List.{get_or_past, get_or-take, length-take-le, length-map, take-map, get_or_at, get_or_append_left, length-append, ext_get_or, get_or-map, get_or_default}
use Rattle.std.proofs.lemmas.List.Elements.{All-get_or, All-from_get_or}
use Rattle.std.proofs.lemmas.List.FromFn.{length-map-range_with_len, get_or-map-range_with_len}
use Rattle.std.specs.List.{range_with_len}
use Rattle.gf256.specs.Field.{IsElement, plus, times}
use Rattle.gf256.specs.declared.Gf.{Gf}
use Rattle.gf256.specs.Linear.{values, matrix, dot, IsVector, Annihilates, square, Solves, IsSingular}
use Rattle.gf256.specs.Elimination.{HasElements, matrix_row, entry, CopiesColumn, SameNullSpace, HasUnitColumns, IsZeroBelow}
use Rattle.gf256.proofs.Lists.{length-values, length-matrix}
use Rattle.gf256.proofs.NullSpaces.{dot-nil, dot-lt, Annihilates-from}
use Rattle.gf256.proofs.UnitColumns.{unit, unit-same, unit-other}
use Rattle.gf256.proofs.NullVectors.{EndsAt, IsColumnVector, IsColumnVector-Annihilates, IsColumnVector-IsVector, IsColumnVector-IsNonzero, dot-one, unit_row-dot, zero_left, zero_right, zeros_read}
use Rattle.gf256.proofs.FieldLaws.{plus_assoc, plus-zero, zero-plus, plus_self, same_from_plus, times-one, one-times}

-- ---- an equation as an annihilated vector

-- the unknowns, and a 1 for the right side
abbrev pub augmented : ℕ → List ℕ → List ℕ
augmented r y = take r y ++ 1 ∷ []

dot-augmented : (r : ℕ) (xs y : List ℕ) → r ≤ length y → dot xs (augmented r y) ≡ plus (dot (take r xs) y) (times (get_or xs r 0) 1)
dot-augmented zero [] y h = sym (ap (λ s. plus 0 s) (zero_left 0 1 refl) ∙ plus-zero 0)
dot-augmented zero (x ∷ xs) y h =
    ap (λ s. plus (times x 1) s) (dot-nil xs) ∙ plus-zero (times x 1) ∙ sym (zero-plus (times x 1))
dot-augmented (suc r) xs [] h = absurd (omega arith)
dot-augmented (suc r) [] (y ∷ ys) h = sym (ap (λ s. plus 0 s) (zero_left 0 1 refl) ∙ plus-zero 0)
dot-augmented (suc r) (x ∷ xs) (y ∷ ys) h =
    ap (λ s. plus (times x y) s) (dot-augmented r xs ys (omega arith))
    ∙ sym (plus_assoc (times x y) (dot (take r xs) ys) (times (get_or xs r 0) 1))

-- no entry past the vector's length counts
dot-take : (r : ℕ) (xs y : List ℕ) → length y ≤ r → dot (take r xs) y ≡ dot xs y
dot-take zero [] y h = refl
dot-take zero (x ∷ xs) [] h = refl
dot-take zero (x ∷ xs) (y ∷ ys) h = absurd (omega arith)
dot-take (suc r) [] y h = refl
dot-take (suc r) (x ∷ xs) [] h = refl
dot-take (suc r) (x ∷ xs) (y ∷ ys) h = ap (λ s. plus (times x y) s) (dot-take r xs ys (omega arith))

Solves-from : (r : ℕ) (rows : List (List ℕ)) (y : List ℕ) → r ≤ length y → r ≤ length rows → HasElements (take r rows) → Annihilates (take r rows) (augmented r y) → Solves r rows y
Solves-from r rows y long within elements annihilated = λ i d i_in.
    let row = get_or (take r rows) i d in
    let rows_length : length (take r rows) ≡ r = length-take-le r rows within in
    let right_in : IsElement (get_or row r 0) =
    subst (λ (xs : List ℕ). IsElement (get_or xs r 0)) (get_or_default (take r rows) i [] d i_in) (elements i r) in
    same_from_plus (dot (take r row) y) (get_or row r 0)
    (ap (λ s. plus (dot (take r row) y) s) (sym (times-one (get_or row r 0) right_in))
    ∙ sym (dot-augmented r row y long)
    ∙ annihilated i d i_in)

Annihilates-from_Solves : (r : ℕ) (rows : List (List ℕ)) (y : List ℕ) → r ≤ length y → Solves r rows y → Annihilates (take r rows) (augmented r y)
Annihilates-from_Solves r rows y long solves = λ i d i_in.
    let row = get_or (take r rows) i d in
    let right : dot (take r row) y ≡ get_or row r 0 = solves i d i_in in
    let right_in : IsElement (get_or row r 0) = subst IsElement right (dot-lt (take r row) y) in
    dot-augmented r row y long
    ∙ ap₂ (λ s t. plus s t) right (times-one (get_or row r 0) right_in)
    ∙ plus_self (get_or row r 0)

-- ---- the solution

augmented-EndsAt : (r : ℕ) (y : List ℕ) → r ≤ length y → EndsAt r (augmented r y)
augmented-EndsAt r y long =
    let front : length (take r y) ≡ r = length-take-le r y long in
    let whole : length (augmented r y) ≡ length (take r y) + 1 = length-append (take r y) (1 ∷ []) in
    record {
      one = get_or_at (take r y) 1 [] 0 r front;
      zeros = λ j h. get_or_past (augmented r y) j 0 (omega arith);
    }

augmented-front : (r : ℕ) (y : List ℕ) (k : ℕ) → r ≤ length y → k < r → get_or (augmented r y) k 0 ≡ get_or y k 0
augmented-front r y k long below =
    let front : length (take r y) ≡ r = length-take-le r y long in
    get_or_append_left (take r y) (1 ∷ []) 0 k (omega arith) ∙ get_or-take r y k 0 below

-- what elimination leaves of a system with a solution: x is column r of the reduced rows, and 0 behind it
pub record IsSolution (r : ℕ) (m : List (List ℕ)) (x : List ℕ) : Type 0 where
  pub rows : length m ≡ r
  pub units : HasUnitColumns r m
  pub elements : HasElements m
  pub long : r ≤ length x
  pub front : (k : ℕ) → k < r → get_or x k 0 ≡ entry m k r
  pub zeros : (k : ℕ) → r ≤ k → get_or x k 0 ≡ 0

past_rows : (r : ℕ) (m : List (List ℕ)) → length m ≡ r → IsZeroBelow r m
past_rows r m rows = λ i h. ap (λ (row : List ℕ). get_or row r 0) (get_or_past m i [] (omega arith))

IsSolution-Annihilates : (r : ℕ) (m : List (List ℕ)) (x : List ℕ) → IsSolution r m x → Annihilates m (augmented r x)
IsSolution-Annihilates r m x s =
    IsColumnVector-Annihilates r m (augmented r x) s.units (past_rows r m s.rows) (λ h. s.elements)
    (record { ends = augmented-EndsAt r x s.long; front = λ k h. augmented-front r x k s.long h ∙ s.front k h })

IsSolution-IsVector : (r n : ℕ) (m : List (List ℕ)) (x : List ℕ) → length x ≡ n → IsSolution r m x → IsVector n r x
IsSolution-IsVector r n m x full s = record {
  full = full;
  elements = All-from_get_or IsElement x 0 (λ k k_in.
      elim (cases_lt k r) as (λ _. IsElement (get_or x k 0)) [
        | inl below ↦ subst IsElement (sym (s.front k below)) (s.elements k r)
        | inr behind ↦ let none = s.zeros k behind in omega arith
      ]);
  zeros = s.zeros;
}

-- another vector that solves the reduced system is the same
IsSolution-only : (r n : ℕ) (m : List (List ℕ)) (x y : List ℕ) → length x ≡ n → r ≤ n → IsSolution r m x → IsVector n r y → Annihilates m (augmented r y) → y ≡ x
IsSolution-only r n m x y full fits s is_vector annihilated =
    let rows = s.rows in
    let y_full = is_vector.full in
    let same : (k : ℕ) → k < length y → get_or y k 0 ≡ get_or x k 0 = λ k k_in.
    elim (cases_lt k r) as (λ _. get_or y k 0 ≡ get_or x k 0) [
      | inl below ↦
          let element : IsElement (get_or y k 0) = All-get_or IsElement y k 0 k_in is_vector.elements in
          let first : get_or (augmented r y) k 0 ≡ get_or y k 0 = augmented-front r y k (omega arith) below in
          let term : plus (get_or (augmented r y) k 0) (entry m k r) ≡ 0 =
          sym (unit_row-dot r k m (augmented r y) s.units (augmented-EndsAt r y (omega arith)) (omega arith) below (omega arith) (s.elements k r))
          ∙ annihilated k [] (omega arith) in
          sym first ∙ same_from_plus (get_or (augmented r y) k 0) (entry m k r) term ∙ sym (s.front k below)
      | inr behind ↦ is_vector.zeros k behind ∙ sym (s.zeros k behind)
    ] in
    ext_get_or 0 y x (omega arith) same

-- ---- singular

square_row : (r : ℕ) (rows : List (List ℕ)) (i : ℕ) → i < length (take r rows) → get_or (square r rows) i [] ≡ take r (matrix_row (take r rows) i)
square_row r rows i i_in = get_or-map (λ (row : List ℕ). take r row) (take r rows) i [] [] i_in

-- the square part and the whole rows annihilate the same vectors of r places
square-from : (r : ℕ) (rows : List (List ℕ)) (v : List ℕ) → length v ≤ r → Annihilates (take r rows) v → Annihilates (square r rows) v
square-from r rows v short annihilated =
    let same : length (square r rows) ≡ length (take r rows) = length-map (take r rows) (λ (row : List ℕ). take r row) in
    Annihilates-from (square r rows) v (λ i i_in.
    ap (λ row. dot row v) (square_row r rows i (omega arith))
    ∙ dot-take r (matrix_row (take r rows) i) v short
    ∙ annihilated i [] (omega arith))

from_square : (r : ℕ) (rows : List (List ℕ)) (v : List ℕ) → length v ≤ r → Annihilates (square r rows) v → Annihilates (take r rows) v
from_square r rows v short annihilated =
    let same : length (square r rows) ≡ length (take r rows) = length-map (take r rows) (λ (row : List ℕ). take r row) in
    Annihilates-from (take r rows) v (λ i i_in.
    sym (dot-take r (matrix_row (take r rows) i) v short)
    ∙ ap (λ row. dot row v) (sym (square_row r rows i i_in))
    ∙ annihilated i [] (omega arith))

-- a reduced matrix with r unit columns annihilates no other vector of r places than 0
HasUnitColumns-regular : (r : ℕ) (old m : List (List ℕ)) → length m ≡ r → HasUnitColumns r m → SameNullSpace (take r old) m → IsSingular r old → ⊥
HasUnitColumns-regular r old m rows units same s =
    let y = s.vector in
    let full : length y ≡ r = s.is_vector.full in
    let annihilated : Annihilates m y = (same y).0 (from_square r old y (omega arith) s.annihilated) in
    let zero_at : (k : ℕ) → get_or y k 0 ≡ 0 = λ k.
    elim (cases_lt k r) as (λ _. get_or y k 0 ≡ 0) [
      | inl below ↦
          let element : IsElement (get_or y k 0) = All-get_or IsElement y k 0 (omega arith) s.is_vector.elements in
          let row = matrix_row m k in
          let others : (j : ℕ) → j ≢ k → times (get_or row j 0) (get_or y j 0) ≡ 0 = λ j ne.
          elim (cases_lt j r) as (λ _. times (get_or row j 0) (get_or y j 0) ≡ 0) [
            | inl front ↦ zero_left (get_or row j 0) (get_or y j 0) (units k j (omega arith) front ∙ unit-other k j (λ e. ne (sym e)))
            | inr behind ↦ zero_right (get_or row j 0) (get_or y j 0) (s.is_vector.zeros j behind)
          ] in
          sym (dot-one k row y others
          ∙ ap (λ x. times x (get_or y k 0)) (units k k (omega arith) below ∙ unit-same k k refl)
          ∙ one-times (get_or y k 0) element)
          ∙ annihilated k [] (omega arith)
      | inr behind ↦ s.is_vector.zeros k behind
    ] in
    s.nonzero.1 (zero_at s.nonzero.0)

-- column c, a 1 and zeros, as a list of r places
column_entry : ℕ → List (List ℕ) → ℕ → ℕ
column_entry c m k = cond (ltb k c) (entry m k c) (unit k c)

column_vector : ℕ → ℕ → List (List ℕ) → List ℕ
column_vector r c m = map (column_entry c m) (range_with_len 0 r)

column_vector-IsColumnVector : (r c : ℕ) (m : List (List ℕ)) → c < r → IsColumnVector c m (column_vector r c m)
unfolding column_vector column_entry
column_vector-IsColumnVector r c m below =
    let v = column_vector r c m in
    let full : length v ≡ r = length-map-range_with_len (column_entry c m) 0 r in
    let at : (k : ℕ) → k < r → get_or v k 0 ≡ column_entry c m k = λ k h. get_or-map-range_with_len (column_entry c m) 0 r k k 0 h (omega arith) in
    record {
      ends = record {
        one = at c below ∙ cond-false (ltb c c) (entry m c c) (unit c c) (le-ltb c c (omega arith)) ∙ unit-same c c refl;
        zeros = λ j h.
            elim (cases_lt j r) as (λ _. get_or v j 0 ≡ 0) [
              | inl inside ↦ at j inside ∙ cond-false (ltb j c) (entry m j c) (unit j c) (le-ltb j c (omega arith)) ∙ unit-other j c (omega arith)
              | inr past ↦ get_or_past v j 0 (omega arith)
            ];
      };
      front = λ k h. at k (omega arith) ∙ cond-true (ltb k c) (entry m k c) (unit k c) (lt-ltb k c h);
    }

length-column_vector : (r c : ℕ) (m : List (List ℕ)) → length (column_vector r c m) ≡ r
unfolding column_vector
length-column_vector r c m = length-map-range_with_len (column_entry c m) 0 r

-- a reduced matrix with a column left shows that the square part is singular
IsSingular-from : (r c : ℕ) (old m : List (List ℕ)) → c < r → HasUnitColumns c m → IsZeroBelow c m → (0 < c → HasElements m) → SameNullSpace (take r old) m → IsSingular r old
IsSingular-from r c old m below units zero_below elements same =
    let v = column_vector r c m in
    let full : length v ≡ r = length-column_vector r c m in
    let column : IsColumnVector c m v = column_vector-IsColumnVector r c m below in
    record {
      vector = v;
      is_vector = IsColumnVector-IsVector c r r m v full below elements column;
      nonzero = IsColumnVector-IsNonzero c m v column;
      annihilated =
          square-from r old v (omega arith)
          ((same v).1 (IsColumnVector-Annihilates c m v units zero_below elements column));
    }

IsSolution-from : (r n : ℕ) (m : List (List ℕ)) (x : List ℕ) → length m ≡ r → r ≤ n → length x ≡ n → HasUnitColumns r m → HasElements m → CopiesColumn r m (replicate n 0) x → IsSolution r m x
IsSolution-from r n m x rows fits full units elements copies = record {
  rows = rows;
  units = units;
  elements = elements;
  long = omega arith;
  front = λ k h. copies.front k (omega arith);
  zeros = λ k h. copies.rest k (omega arith) ∙ zeros_read n k;
}

-- what `solve` promises of a solution of n places
pub record IsOnlySolution (n r : ℕ) (rows : List (List ℕ)) (x : List ℕ) : Type 0 where
  pub vector : IsVector n r x
  pub solves : Solves r rows x
  pub only : (y : List ℕ) → IsVector n r y → Solves r rows y → y ≡ x
  pub regular : IsSingular r rows → ⊥

pub IsOnlySolution-from : (n r : ℕ) (old m : List (List ℕ)) (x : List ℕ) → r ≤ length old → r ≤ n → length x ≡ n → SameNullSpace (take r old) m → HasElements (take r old) → IsSolution r m x → IsOnlySolution n r old x
IsOnlySolution-from n r old m x within fits full same elements s = record {
  vector = IsSolution-IsVector r n m x full s;
  solves = Solves-from r old x s.long within elements ((same (augmented r x)).1 (IsSolution-Annihilates r m x s));
  only = λ y is_vector solves.
      (let y_full = is_vector.full in
      IsSolution-only r n m x y full fits s is_vector
      ((same (augmented r y)).0 (Annihilates-from_Solves r old y (omega arith) solves)));
  regular = HasUnitColumns-regular r old m s.rows s.units same;
}

-- .. from what the calls of `solve` ensure
pub IsOnlySolution-reduced : (n r c : ℕ) (old reduced : List (List Gf)) (copied : List Gf) → length old ≡ n → length reduced ≡ r → c ≡ r → 0 < r → r ≤ n → length copied ≡ n → SameNullSpace (matrix (take r old)) (matrix reduced) → HasUnitColumns c (matrix reduced) → (0 < c → HasElements (matrix (take r old))) → (0 < c → HasElements (matrix reduced)) → CopiesColumn r (matrix reduced) (replicate n 0) (values copied) → IsOnlySolution n r (matrix old) (values copied)
IsOnlySolution-reduced n r c old reduced copied old_rows rows all positive fits full same units elements_before elements copies =
    let old_length = length-matrix old in
    let reduced_length = length-matrix reduced in
    let copied_length = length-values copied in
    let taken : matrix (take r old) ≡ take r (matrix old) = sym (take-map values r old) in
    IsOnlySolution-from n r (matrix old) (matrix reduced) (values copied) (omega arith) fits (omega arith)
    (subst (λ m. SameNullSpace m (matrix reduced)) taken same)
    (subst HasElements taken (elements_before (omega arith)))
    (IsSolution-from r n (matrix reduced) (values copied) (omega arith) fits (omega arith)
    (subst (λ k. HasUnitColumns k (matrix reduced)) all units) (elements (omega arith)) copies)

pub IsSingular-reduced : (r c : ℕ) (old reduced : List (List Gf)) → c < r → HasUnitColumns c (matrix reduced) → IsZeroBelow c (matrix reduced) → (0 < c → HasElements (matrix reduced)) → SameNullSpace (matrix (take r old)) (matrix reduced) → IsSingular r (matrix old)
IsSingular-reduced r c old reduced below units zero_below elements same =
    IsSingular-from r c (matrix old) (matrix reduced) below units zero_below elements
    (subst (λ m. SameNullSpace m (matrix reduced)) (sym (take-map values r old)) same)

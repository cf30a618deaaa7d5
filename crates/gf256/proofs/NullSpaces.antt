-- What a matrix annihilates, through the changes of its rows.
use Rattle.std.proofs.Common.{◌≡◌, ◌≢◌, ℕ, ◌<◌, inl, inr, List, [], ◌∷◌, length, set, refl, sym, ap, ap₂, ◌∙◌, arith}
use Rattle.std.proofs.lemmas.Bool.{cases_eq}
use Rattle.std.proofs.lemmas.List.{get_or-set_same, get_or-set_other, length-set, get_or_default}
use Rattle.gf256.specs.Field.{IsElement, plus, times}
use Rattle.gf256.specs.Linear.{dot, Annihilates, scaled}
use Rattle.gf256.specs.Elimination.{plus_multiple, matrix_row, entry, ClearsColumn, SameNullSpace}
use Rattle.gf256.proofs.Polynomials.{plus_exchange}
use Rattle.gf256.proofs.FieldLaws.{plus-lt, plus-zero, times-lt, times-zero, times-plus, plus-times, times_assoc, times_cancel_left}

-- ---- the dot product of a changed row

pub dot-nil : (xs : List ℕ) → dot xs [] ≡ 0
dot-nil [] = refl
dot-nil (x ∷ xs) = refl

pub dot-lt : (xs ys : List ℕ) → IsElement (dot xs ys)
dot-lt [] ys = omega arith
dot-lt (x ∷ xs) [] = omega arith
dot-lt (x ∷ xs) (y ∷ ys) = plus-lt (times x y) (dot xs ys) (times-lt x y) (dot-lt xs ys)

pub dot-scaled : (factor : ℕ) (xs v : List ℕ) → dot (scaled factor xs) v ≡ times factor (dot xs v)
dot-scaled factor [] v = sym (times-zero factor)
dot-scaled factor (x ∷ xs) [] = sym (times-zero factor)
dot-scaled factor (x ∷ xs) (y ∷ v) =
    ap₂ (λ s t. plus s t) (times_assoc factor x y) (dot-scaled factor xs v)
    ∙ sym (times-plus factor (times x y) (dot xs v))

pub dot-plus_multiple : (xs : List ℕ) (factor : ℕ) (ys v : List ℕ) → length xs ≡ length ys → dot (plus_multiple xs factor ys) v ≡ plus (dot xs v) (times factor (dot ys v))
dot-plus_multiple [] factor [] v same = sym (ap (λ s. plus 0 s) (times-zero factor) ∙ plus-zero 0)
dot-plus_multiple [] factor (y ∷ ys) v same = absurd (omega arith)
dot-plus_multiple (x ∷ xs) factor [] v same = absurd (omega arith)
dot-plus_multiple (x ∷ xs) factor (y ∷ ys) [] same = sym (ap (λ s. plus 0 s) (times-zero factor) ∙ plus-zero 0)
dot-plus_multiple (x ∷ xs) factor (y ∷ ys) (z ∷ v) same =
    ap₂ (λ s t. plus s t)
    (plus-times x (times factor y) z ∙ ap (λ s. plus (times x z) s) (times_assoc factor y z))
    (dot-plus_multiple xs factor ys v (omega arith))
    ∙ plus_exchange (times x z) (times factor (times y z)) (dot xs v) (times factor (dot ys v))
    ∙ ap (λ s. plus (plus (times x z) (dot xs v)) s) (sym (times-plus factor (times y z) (dot ys v)))

-- ---- row by row

pub Annihilates-from : (rows : List (List ℕ)) (v : List ℕ) → ((i : ℕ) → i < length rows → dot (matrix_row rows i) v ≡ 0) → Annihilates rows v
Annihilates-from rows v h = λ i d within. ap (λ row. dot row v) (get_or_default rows i d [] within) ∙ h i within

-- each row of `new` is annihilated where the rows of `old` are: one direction of `SameNullSpace`
Keeps : List (List ℕ) → List (List ℕ) → List ℕ → Type 0
Keeps old new v = Annihilates old v → (i : ℕ) → i < length new → dot (matrix_row new i) v ≡ 0

SameNullSpace-from : (old new : List (List ℕ)) → ((v : List ℕ) → Keeps old new v) → ((v : List ℕ) → Keeps new old v) → SameNullSpace old new
unfolding Keeps
SameNullSpace-from old new there back = λ v. (λ h. Annihilates-from new v (there v h), λ h. Annihilates-from old v (back v h))

pub SameNullSpace-same : (rows : List (List ℕ)) → SameNullSpace rows rows
SameNullSpace-same rows = λ v. (λ h. h, λ h. h)

pub SameNullSpace-chain : (a b c : List (List ℕ)) → SameNullSpace a b → SameNullSpace b c → SameNullSpace a c
SameNullSpace-chain a b c h k = λ v. (λ z. (k v).0 ((h v).0 z), λ z. (h v).1 ((k v).1 z))

-- ---- two rows exchanged

pub record Exchanges (a b : ℕ) (old new : List (List ℕ)) : Type 0 where
  pub same_length : length new ≡ length old
  pub first : matrix_row new a ≡ matrix_row old b
  pub second : matrix_row new b ≡ matrix_row old a
  pub others : (i : ℕ) → i ≢ a → i ≢ b → matrix_row new i ≡ matrix_row old i

Exchanges-Keeps : (a b : ℕ) (old new : List (List ℕ)) → a < length old → b < length old → Exchanges a b old new → (v : List ℕ) → Keeps old new v
unfolding Keeps
Exchanges-Keeps a b old new a_in b_in e v zeros i within =
    let same = e.same_length in
    elim (cases_eq i a) as (λ _. dot (matrix_row new i) v ≡ 0) [
      | inl at_a ↦ ap (λ k. dot (matrix_row new k) v) at_a ∙ ap (λ row. dot row v) e.first ∙ zeros b [] b_in
      | inr not_a ↦ elim (cases_eq i b) as (λ _. dot (matrix_row new i) v ≡ 0) [
        | inl at_b ↦ ap (λ k. dot (matrix_row new k) v) at_b ∙ ap (λ row. dot row v) e.second ∙ zeros a [] a_in
        | inr not_b ↦ ap (λ row. dot row v) (e.others i not_a not_b) ∙ zeros i [] (omega arith)
      ]
    ]

pub Exchanges-SameNullSpace : (a b : ℕ) (old new : List (List ℕ)) → a < length old → b < length old → Exchanges a b old new → SameNullSpace old new
Exchanges-SameNullSpace a b old new a_in b_in e =
    let same = e.same_length in
    let back : Exchanges a b new old =
    record { same_length = sym same; first = sym e.second; second = sym e.first; others = λ i h k. sym (e.others i h k) } in
    SameNullSpace-from old new (Exchanges-Keeps a b old new a_in b_in e) (Exchanges-Keeps a b new old (omega arith) (omega arith) back)

-- ---- a row times a factor

pub scaled-SameNullSpace : (rows : List (List ℕ)) (c factor : ℕ) → c < length rows → IsElement factor → factor ≢ 0 → SameNullSpace rows (set rows c (scaled factor (matrix_row rows c)))
unfolding Keeps
scaled-SameNullSpace rows c factor within element ne =
    let row = matrix_row rows c in
    let new = set rows c (scaled factor row) in
    let same : length new ≡ length rows = length-set rows c (scaled factor row) in
    let here : matrix_row new c ≡ scaled factor row = get_or-set_same rows c (scaled factor row) [] within in
    let elsewhere : (i : ℕ) → i ≢ c → matrix_row new i ≡ matrix_row rows i = λ i h. get_or-set_other rows c i (scaled factor row) [] h in
    SameNullSpace-from rows new
    (λ v zeros i i_in.
    elim (cases_eq i c) as (λ _. dot (matrix_row new i) v ≡ 0) [
      | inl at_c ↦
          ap (λ k. dot (matrix_row new k) v) at_c
          ∙ ap (λ r. dot r v) here
          ∙ dot-scaled factor row v
          ∙ ap (λ s. times factor s) (zeros c [] within)
          ∙ times-zero factor
      | inr not_c ↦ ap (λ r. dot r v) (elsewhere i not_c) ∙ zeros i [] (omega arith)
    ])
    (λ v zeros i i_in.
    elim (cases_eq i c) as (λ _. dot (matrix_row rows i) v ≡ 0) [
      | inl at_c ↦
          ap (λ k. dot (matrix_row rows k) v) at_c
          ∙ times_cancel_left factor (dot row v) 0 element ne (dot-lt row v) (omega arith)
          (sym (dot-scaled factor row v) ∙ ap (λ r. dot r v) (sym here) ∙ zeros c [] (omega arith) ∙ sym (times-zero factor))
      | inr not_c ↦ ap (λ r. dot r v) (sym (elsewhere i not_c)) ∙ zeros i [] (omega arith)
    ])

-- ---- a column cleared

pub ClearsColumn-SameNullSpace : (column : ℕ) (old new : List (List ℕ)) → column < length old → ClearsColumn column old new → SameNullSpace old new
unfolding Keeps
ClearsColumn-SameNullSpace column old new below clears =
    let same = clears.same_length in
    let changed : (i : ℕ) → i < length old → i ≢ column → (v : List ℕ) → dot (matrix_row old column) v ≡ 0 → dot (matrix_row new i) v ≡ dot (matrix_row old i) v =
    λ i i_in ne v pivot_zero.
    ap (λ r. dot r v) (clears.others i i_in ne)
    ∙ dot-plus_multiple (matrix_row old i) (entry old i column) (matrix_row old column) v (clears.widths i i_in ne)
    ∙ ap (λ s. plus (dot (matrix_row old i) v) (times (entry old i column) s)) pivot_zero
    ∙ ap (λ s. plus (dot (matrix_row old i) v) s) (times-zero (entry old i column))
    ∙ plus-zero (dot (matrix_row old i) v) in
    SameNullSpace-from old new
    (λ v zeros i i_in.
    elim (cases_eq i column) as (λ _. dot (matrix_row new i) v ≡ 0) [
      | inl at_pivot ↦
          ap (λ k. dot (matrix_row new k) v) at_pivot ∙ ap (λ r. dot r v) clears.pivot ∙ zeros column [] below
      | inr ne ↦ changed i (omega arith) ne v (zeros column [] below) ∙ zeros i [] (omega arith)
    ])
    (λ v zeros i i_in.
    let pivot_zero : dot (matrix_row old column) v ≡ 0 = ap (λ r. dot r v) (sym clears.pivot) ∙ zeros column [] (omega arith) in
    elim (cases_eq i column) as (λ _. dot (matrix_row old i) v ≡ 0) [
      | inl at_pivot ↦ ap (λ k. dot (matrix_row old k) v) at_pivot ∙ pivot_zero
      | inr ne ↦ sym (changed i i_in ne v pivot_zero) ∙ zeros i [] (omega arith)
    ])

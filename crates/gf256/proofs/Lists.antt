-- Lists that a loop rewrites from the front, and the numbers of lists of elements.
use Rattle.std.proofs.Common.{◌≡◌, ℕ, zero, suc, ◌+◌, ◌-◌, ◌<◌, ◌≤◌, List, [], ◌∷◌, ◌++◌, length, get_or, set, take, drop, refl, sym, ap, ap₂, ◌∙◌, arith}
use Rattle.std.proofs.lemmas.List.{map-set, length-map, take_more, drop_more, get_or-append_right, append_assoc, get_or-drop, set_at, length-take-le, take_all, drop_all, append-nil}
use Rattle.gf256.specs.declared.Gf.{Gf}
use Rattle.gf256.specs.Field.{plus, times}
use Rattle.gf256.specs.Linear.{values, matrix, scaled}
use Rattle.gf256.proofs.FieldLaws.{times-zero, plus-zero}
use Rattle.gf256.specs.Elimination.{plus_multiple, matrix_row, entry}

-- the list `old` with its first i places already as in `new`
abbrev pub rewritten : {A : Type 0} → ℕ → List A → List A → List A
rewritten i new old = take i new ++ drop i old

pub rewritten-none : {A : Type 0} (new old : List A) → rewritten 0 new old ≡ old
rewritten-none new old = refl

pub rewritten-all : {A : Type 0} (new old : List A) (i : ℕ) → length new ≤ i → length old ≤ i → rewritten i new old ≡ new
rewritten-all new old i h k = ap₂ (λ s t. s ++ t) (take_all i new h) (drop_all i old k) ∙ append-nil new

pub get_or-rewritten : {A : Type 0} (new old : List A) (i : ℕ) (d : A) → length new ≡ length old → i < length old → get_or (rewritten i new old) i d ≡ get_or old i d
get_or-rewritten new old i d same within =
    let front : length (take i new) ≡ i = length-take-le i new (omega arith) in
    get_or-append_right (take i new) (drop i old) i i d front (omega arith)
    ∙ get_or-drop i old (i - i) d
    ∙ ap (λ k. get_or old k d) (omega arith)

pub rewritten_more : {A : Type 0} (new old : List A) (i : ℕ) (d v : A) → length new ≡ length old → i < length old → v ≡ get_or new i d → set (rewritten i new old) i v ≡ rewritten (i + 1) new old
rewritten_more new old i d v same within is =
    let front : length (take i new) ≡ i = length-take-le i new (omega arith) in
    ap (λ s. set (take i new ++ s) i v) (drop_more old i d within)
    ∙ set_at (take i new) (get_or old i d) (drop (i + 1) old) v i front
    ∙ ap (λ x. take i new ++ x ∷ drop (i + 1) old) is
    ∙ sym (append_assoc (take i new) (get_or new i d ∷ []) (drop (i + 1) old))
    ∙ ap (λ s. s ++ drop (i + 1) old) (sym (take_more new i d (omega arith)))

-- ---- the numbers of elements

pub length-values : (xs : List Gf) → length (values xs) ≡ length xs
length-values xs = length-map xs (λ x. x.value)

pub get_or-values : (xs : List Gf) (i : ℕ) (d : Gf) → i < length xs → get_or (values xs) i 0 ≡ (get_or xs i d).value
get_or-values [] i d within = absurd (omega arith)
get_or-values (x ∷ xs) zero d within = refl
get_or-values (x ∷ xs) (suc i) d within = get_or-values xs i d (omega arith)

pub at-values : (xs : List Gf) (i : ℕ) → get_or (values xs) i 0 ≡ (get_or xs i (record { value = 0 })).value
at-values [] i = refl
at-values (x ∷ xs) zero = refl
at-values (x ∷ xs) (suc i) = at-values xs i

pub values-set : (xs : List Gf) (i : ℕ) (x : Gf) → values (set xs i x) ≡ set (values xs) i x.value
values-set xs i x = map-set (λ (y : Gf). y.value) xs i x

pub length-matrix : (rows : List (List Gf)) → length (matrix rows) ≡ length rows
length-matrix rows = length-map rows values

pub matrix_row-matrix : (rows : List (List Gf)) (i : ℕ) → matrix_row (matrix rows) i ≡ values (get_or rows i [])
matrix_row-matrix [] i = refl
matrix_row-matrix (row ∷ rows) zero = refl
matrix_row-matrix (row ∷ rows) (suc i) = matrix_row-matrix rows i

pub entry-matrix : (rows : List (List Gf)) (i j : ℕ) → entry (matrix rows) i j ≡ (get_or (get_or rows i []) j (record { value = 0 })).value
entry-matrix rows i j = ap (λ row. get_or row j 0) (matrix_row-matrix rows i) ∙ at-values (get_or rows i []) j

pub matrix-set : (rows : List (List Gf)) (i : ℕ) (row : List Gf) → matrix (set rows i row) ≡ set (matrix rows) i (values row)
matrix-set rows i row = map-set values rows i row

-- ---- the changed rows

pub length-plus_multiple : (xs : List ℕ) (factor : ℕ) (ys : List ℕ) → length xs ≡ length ys → length (plus_multiple xs factor ys) ≡ length xs
length-plus_multiple [] factor ys same = refl
length-plus_multiple (x ∷ xs) factor [] same = absurd (omega arith)
length-plus_multiple (x ∷ xs) factor (y ∷ ys) same = ap suc (length-plus_multiple xs factor ys (omega arith))

pub get_or-plus_multiple : (xs : List ℕ) (factor : ℕ) (ys : List ℕ) (i : ℕ) → length xs ≡ length ys → get_or (plus_multiple xs factor ys) i 0 ≡ plus (get_or xs i 0) (times factor (get_or ys i 0))
get_or-plus_multiple [] factor [] i same = sym (ap (λ s. plus 0 s) (times-zero factor) ∙ plus-zero 0)
get_or-plus_multiple [] factor (y ∷ ys) i same = absurd (omega arith)
get_or-plus_multiple (x ∷ xs) factor [] i same = absurd (omega arith)
get_or-plus_multiple (x ∷ xs) factor (y ∷ ys) zero same = refl
get_or-plus_multiple (x ∷ xs) factor (y ∷ ys) (suc i) same = get_or-plus_multiple xs factor ys i (omega arith)

pub get_or-scaled : (factor : ℕ) (xs : List ℕ) (i : ℕ) → get_or (scaled factor xs) i 0 ≡ times factor (get_or xs i 0)
get_or-scaled factor [] i = sym (times-zero factor)
get_or-scaled factor (x ∷ xs) zero = refl
get_or-scaled factor (x ∷ xs) (suc i) = get_or-scaled factor xs i

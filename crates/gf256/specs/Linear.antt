-- Linear systems over the field. A vector or a row is the list of its elements' numbers.
use Rattle.std.specs.Prelude.{◌≡◌, ◌≢◌, ℕ, ◌≤◌, List, [], ◌∷◌, map, take, length, slice_index, All}
use Rattle.gf256.specs.declared.Gf.{Gf}
use Rattle.gf256.specs.Field.{IsElement, plus, times}

-- the numbers of a list of elements
abbrev pub values : List Gf → List ℕ
values elements = map (λ element. element.value) elements

-- the numbers of rows of elements
abbrev pub matrix : List (List Gf) → List (List ℕ)
matrix rows = map values rows

-- a list times a number
abbrev pub scaled : ℕ → List ℕ → List ℕ
scaled factor xs = map (times factor) xs

-- the sum of the products place by place, as far as both lists go
abbrev pub dot : List ℕ → List ℕ → ℕ
dot [] ys = 0
dot (x ∷ xs) [] = 0
dot (x ∷ xs) (y ∷ ys) = plus (times x y) (dot xs ys)

-- v is n elements, 0 from place r on
pub record IsVector (n r : ℕ) (v : List ℕ) : Type 0 where
  pub full : length v ≡ n
  pub elements : All IsElement v
  pub zeros : (j : ℕ) → r ≤ j → slice_index v j ≡ 0

-- some place of v is not 0
abbrev pub IsNonzero : List ℕ → Type 0
IsNonzero v = (j : ℕ) × (slice_index v j ≢ 0)

-- each row's product with v is 0
abbrev pub Annihilates : List (List ℕ) → List ℕ → Type 0
Annihilates rows v = All (λ row. dot row v ≡ 0) rows

-- the first r places of the first r rows
abbrev pub square : ℕ → List (List ℕ) → List (List ℕ)
square r rows = map (λ row. take r row) (take r rows)

-- x meets the first r equations in r unknowns, each of which has its right side at place r of its row
abbrev pub Solves : ℕ → List (List ℕ) → List ℕ → Type 0
Solves r rows x = All (λ row. dot (take r row) x ≡ slice_index row r) (take r rows)

-- the square part annihilates r elements that are not all 0
pub record IsSingular (r : ℕ) (rows : List (List ℕ)) : Type 0 where
  pub vector : List ℕ
  pub is_vector : IsVector r r vector
  pub nonzero : IsNonzero vector
  pub annihilated : Annihilates (square r rows) vector

-- Residues: of more numbers than there are residues two agree, and there is a first place where one does with an earlier one.
use Rattle.std.proofs.Common.{◌≡◌, ℕ, zero, suc, ◌+◌, ◌-◌, ◌*◌, ◌/◌, ◌%◌, ◌<◌, ◌≤◌, ◌⊎◌, inl, inr, List, length, get_or, map, take, eqb, ap, sym, ◌∙◌, arith}
use Rattle.std.specs.Prelude.{slice_index}
use Rattle.std.specs.List.{range_with_len}
use Rattle.std.proofs.Math.Nat.{div-add-mod, add-mul-mod_self_left, mul-le-mul_left, mul-add, zero-add}
use Rattle.std.proofs.lemmas.Bool.{cases_lt, cases_eq, eqb-true}
use Rattle.std.proofs.lemmas.Bool.Decides.{Decides-eqb}
use Rattle.std.proofs.lemmas.Nat.{mod_below}
use Rattle.std.proofs.lemmas.List.{get_or-map, length-map, take-take}
use Rattle.std.proofs.lemmas.List.FromFn.{get_or-range_with_len, length-range_with_len}
use Rattle.std.proofs.lemmas.List.Folds.{Any-from_list_any}
use Rattle.std.proofs.lemmas.List.Sums.{sum-map, sum_by-take-le}
use Rattle.std.proofs.lemmas.Map.Steps.{length-le_from_distinct_below}
use Rattle.std.proofs.lemmas.Map.Made.{IsDistinct-from_AllPairs}
use Rattle.label_graphs.specs.Graph.{EdgeData}
use Rattle.split_spec.specs.Run.{weight_of, AgreeAt}

-- the first place with the value of an earlier one
pub record FirstRepeat (f : ℕ → ℕ) (count : ℕ) : Type 0 where
  pub i : ℕ
  pub j : ℕ
  pub order : i < j
  pub inside : j < count
  pub same : f i ≡ f j
  pub first : (a b : ℕ) → a < b → b < j → f a ≡ f b → ⊥

-- no place has the value of an earlier one
abbrev NoRepeat : (ℕ → ℕ) → ℕ → Type 0
NoRepeat f count = (a b : ℕ) → a < b → b < count → f a ≡ f b → ⊥

-- some place has the value, or none has
seen : (f : ℕ → ℕ) (v count : ℕ) → ((i : ℕ) × (i < count) × (f i ≡ v)) ⊎ ((i : ℕ) → i < count → f i ≡ v → ⊥)
seen f v zero = inr (λ i inside same. absurd (omega (arith, inside)))
seen f v (suc count) = elim (cases_eq (f count) v) [
  | inl same ↦ inl (count, omega arith, same)
  | inr other ↦ elim (seen f v count) [
    | inl found ↦ inl (found.0, (let below = found.1 in omega (arith, below)), found.2)
    | inr none ↦ inr (λ i inside same. elim (cases_lt i count) [
      | inl low ↦ none i low same
      | inr high ↦ other (let last : count ≡ i = omega (arith, inside, high) in ap f last ∙ same)
    ])
  ]
]

-- there is such a place, or none
search_repeat : (f : ℕ → ℕ) (count : ℕ) → FirstRepeat f count ⊎ NoRepeat f count
search_repeat f zero = inr (λ a b order inside same. absurd (omega (arith, inside)))
search_repeat f (suc count) = elim (search_repeat f count) [
  | inl found ↦ inl (record {
    i = found.i;
    j = found.j;
    order = found.order;
    same = found.same;
    first = found.first;
    inside = (let below = found.inside in omega (arith, below));
  })
  | inr none ↦ elim (seen f (f count) count) [
    | inl earlier ↦ inl (record { i = earlier.0; j = count; order = earlier.1; inside = omega arith; same = earlier.2; first = none })
    | inr new ↦ inr (λ a b order inside same. elim (cases_lt b count) [
      | inl low ↦ none a b order low same
      | inr high ↦ (
          let last : b ≡ count = omega (arith, inside, high) in
          new a (omega (arith, order, last)) (same ∙ ap f last))
    ])
  ]
]

-- more values than there are numbers below n repeat
values_repeat : (f : ℕ → ℕ) (n : ℕ) → ((k : ℕ) → f k < n) → NoRepeat f (n + 1) → ⊥
values_repeat f n below none =
    let places = range_with_len 0 (n + 1) in
    let xs = map f places in
    let size : length xs ≡ n + 1 = length-map places f ∙ length-range_with_len 0 (n + 1) in
    let at : (k d : ℕ) → k < length xs → get_or xs k d ≡ f k =
    λ k d inside.
    get_or-map f places k 0 d (let wide = length-range_with_len 0 (n + 1) in omega (arith, inside, size, wide))
    ∙ ap f (get_or-range_with_len 0 (n + 1) k 0 (omega (arith, inside, size)) ∙ zero-add k) in
    let few : length xs ≤ n = length-le_from_distinct_below xs n
    (IsDistinct-from_AllPairs Decides-eqb xs (λ i j d order inside same.
    none i j order (omega (arith, inside, size)) (sym (at i d (omega (arith, order, inside))) ∙ same ∙ at j d inside)))
    (λ q found.
    let any = Any-from_list_any (eqb q) xs found in
    let same = eqb-true q any.1 any.4 in
    let here = at any.0 any.1 any.2 in
    let low = below any.0 in
    let is = any.3 in
    omega (arith, same, here, low, is)) in
    omega (arith, few, size)

-- more places than values below n have a first repeat
pub first_repeat : (f : ℕ → ℕ) (n : ℕ) → ((k : ℕ) → f k < n) → FirstRepeat f (n + 1)
first_repeat f n below = elim (search_repeat f (n + 1)) [
  | inl found ↦ found
  | inr none ↦ absurd (values_repeat f n below none)
]

-- two numbers with one residue are some multiple apart
pub residues_apart : (n a b : ℕ) → a ≤ b → a % n ≡ b % n → (y : ℕ) × (b ≡ a + n * y)
residues_apart n a b up same =
    let one = div-add-mod a n in
    let other = div-add-mod b n in
    elim (cases_lt (a / n) (b / n)) [
      | inl less ↦ (
          let y = b / n - a / n in
          let parts : n * (b / n) ≡ n * (a / n) + n * y =
          ap (λ k. n * k) (let back : b / n ≡ a / n + y = omega (arith, less) in back) ∙ mul-add n (a / n) y in
          (y, omega (arith, one, other, same, parts)))
      | inr no_more ↦ (
          let low : n * (b / n) ≤ n * (a / n) = mul-le-mul_left n no_more in
          (0, omega (arith, one, other, same, low, up)))
    ]

-- two numbers some multiple apart have one residue
pub residues_agree : (n a b y : ℕ) → b ≡ a + n * y → a % n ≡ b % n
residues_agree n a b y is = sym (ap (λ k. k % n) is ∙ add-mul-mod_self_left a n y)

-- the sum of more weights is no less
pub sums_ascend : (x : List ℕ) (edges : List EdgeData) (i j : ℕ) → i ≤ j → weight_of x (take i edges) ≤ weight_of x (take j edges)
sums_ascend x edges i j up =
    let W : EdgeData → ℕ = λ e. slice_index x e.to in
    let short : weight_of x (take i edges) ≡ weight_of x (take i (take j edges)) = ap (weight_of x) (sym (take-take i j edges up)) in
    let low = sum_by-take-le W (take j edges) i in
    let one = sum-map W (take i (take j edges)) in
    let other = sum-map W (take j edges) in
    omega (arith, short, low, one, other)

-- the residue of the sum of the first weights
abbrev pub residue_at : ℕ → List ℕ → List EdgeData → ℕ → ℕ
residue_at n x edges i = weight_of x (take i edges) % n

-- sums agree where their residues do
pub agree_by : (n : ℕ) (x : List ℕ) (edges : List EdgeData) (i j : ℕ) → i < j → residue_at n x edges i ≡ residue_at n x edges j → AgreeAt n x edges i j
agree_by n x edges i j order same =
    residues_apart n (weight_of x (take i edges)) (weight_of x (take j edges)) (sums_ascend x edges i j (omega (arith, order))) same

-- and only there
pub agreed : (n : ℕ) (x : List ℕ) (edges : List EdgeData) (i j : ℕ) → AgreeAt n x edges i j → residue_at n x edges i ≡ residue_at n x edges j
agreed n x edges i j agree = residues_agree n (weight_of x (take i edges)) (weight_of x (take j edges)) agree.0 agree.1

-- the first place where the sum agrees with an earlier one
pub first_agreement : (n : ℕ) (x : List ℕ) (edges : List EdgeData) → 1 ≤ n → FirstRepeat (residue_at n x edges) (n + 1)
first_agreement n x edges some =
    first_repeat (residue_at n x edges) n (λ k. mod_below (weight_of x (take k edges)) n (omega (arith, some)))

-- among the sums of the weights of the first 0 to n edges two agree
pub residues_repeat : (n : ℕ) (x : List ℕ) (edges : List EdgeData) → 1 ≤ n
    → (i j : ℕ) × (i < j) × (j ≤ n) × AgreeAt n x edges i j
residues_repeat n x edges some =
    let found = first_agreement n x edges some in (
      found.i,
      found.j,
      found.order,
      (let below = found.inside in omega (arith, below)),
      agree_by n x edges found.i found.j found.order found.same,
    )

-- What an approximate eigenvector says of the step that it is, and that the step has one outcome.
use Rattle.std.proofs.Common.{◌≡◌, ℕ, ◌*◌, ◌<◌, ◌≤◌, List, length, Result, Option, Some, None, Ok, Err, inl, inr, refl, sym, ap, ◌∙◌, subst, arith}
use Rattle.std.specs.Prelude.{IfOk, IfSome, IfNone, slice_index}
use Rattle.std.proofs.lemmas.Bool.{cases_lt}
use Rattle.std.proofs.lemmas.Grind.{same_number_lists}
use Rattle.label_graphs.specs.Graph.{EdgeData}
use Rattle.label_graphs.specs.Cover.{CoverData}
use Rattle.label_graphs.specs.Matrix.{CountsEdges, CountsWords}
use Rattle.label_graphs.specs.Power.{IsPower}
use Rattle.label_graphs.specs.Vector.{target_sum, row_sum, IsSolution, IsGreatest, IsNonzero, IsVector, IsLeastBound}
use Rattle.label_graphs.proofs.Sums.{counts_add_up}
use Rattle.franaszek.proofs.Products.{vector_within}
use Rattle.command_steps.specs.declared.status.Status.TheVariants.{NoVector}
use Rattle.command_steps.specs.Step.{IsSingle}
use Rattle.command_steps.specs.Promise.{Decides}
use Rattle.steps.proofs.StepLaws.{reads_value, reads_fault, reads_is_single}
use Rattle.command_steps.proofs.StepLaws.{no_vector_is_alone}
use Rattle.design_steps.specs.Vectors.{VectorData, IsLeastVector, HasNoVector, VectorOf}
use Rattle.design_steps.specs.inside.Beginning.{vector_data}
use Rattle.design_steps.proofs.PowerLaws.{one_power}

-- ---- the sums over a matrix that counts a graph's edges are those over its edges

-- two sums that agree on a list
abbrev Agree : ℕ → (List ℕ → ℕ → ℕ) → (List ℕ → ℕ → ℕ) → Type 0
Agree count here there = (x : List ℕ) (state : ℕ) → length x ≡ count → state < count → here x state ≡ there x state

solution_by : (count n bound : ℕ) (here there : List ℕ → ℕ → ℕ) (x : List ℕ) → Agree count here there → IsSolution here count n bound x → IsSolution there count n bound x
solution_by count n bound here there x agree is = record {
  size = is.size;
  within = is.within;
  inequality = λ state inside. subst (λ m. n * slice_index x state ≤ m) (agree x state is.size (let size = is.size in omega (arith, inside, size))) (is.inequality state inside);
}

vector_by : (count n bound : ℕ) (here there : List ℕ → ℕ → ℕ) (x : List ℕ) → Agree count here there → IsVector here count n bound x → IsVector there count n bound x
vector_by count n bound here there x agree is = record {
  solution = solution_by count n bound here there x agree is.solution;
  nonzero = is.nonzero;
}

agree_back : (count : ℕ) (here there : List ℕ → ℕ → ℕ) → Agree count here there → Agree count there here
agree_back count here there agree x state size inside = sym (agree x state size inside)

greatest_by : (count n bound : ℕ) (here there : List ℕ → ℕ → ℕ) (x : List ℕ) → Agree count here there → IsGreatest here count n bound x → IsGreatest there count n bound x
greatest_by count n bound here there x agree is = record {
  solution = solution_by count n bound here there x agree is.solution;
  greatest = λ other solution. is.greatest other (solution_by count n bound there here other (agree_back count here there agree) solution);
}

least_by : (count n bound : ℕ) (here there : List ℕ → ℕ → ℕ) → Agree count here there → IsLeastBound here count n bound → IsLeastBound there count n bound
least_by count n bound here there agree is = record {
  one = is.one;
  some = (is.some.0, vector_by count n bound here there is.some.0 agree is.some.1);
  least = λ lower below other vector. is.least lower below other (vector_by count n lower there here other (agree_back count here there agree) vector);
}

-- the power's rows and the counts of the cover's words
pub sums_agree : (cover : CoverData) (q : ℕ) (rows : List (List EdgeData)) (matrix : List (List ℕ)) → IsPower cover q rows → CountsWords cover q matrix
    → (length matrix ≡ length rows) × Agree (length rows) (row_sum matrix) (target_sum rows)
sums_agree cover q rows matrix power words =
    let same : words.0 ≡ rows = one_power cover q words.0 rows words.1 power in
    let counted : CountsEdges rows matrix = subst (λ (r : List (List EdgeData)). CountsEdges r matrix) same words.2 in
    (counted.size, λ x state size inside. counts_add_up rows matrix x state counted size inside)

-- ---- one value, and not both

bound_most : (rows : List (List EdgeData)) (n a b : ℕ) → IsLeastBound (target_sum rows) (length rows) n a → IsLeastBound (target_sum rows) (length rows) n b → a ≤ b
bound_most rows n a b here there = elim (cases_lt b a) [
  | inl less ↦ absurd (here.least b less there.some.0 there.some.1)
  | inr more ↦ more
]

bound_once : (rows : List (List EdgeData)) (n a b : ℕ) → IsLeastBound (target_sum rows) (length rows) n a → IsLeastBound (target_sum rows) (length rows) n b → a ≡ b
bound_once rows n a b here there =
    let low = bound_most rows n a b here there in
    let high = bound_most rows n b a there here in
    omega (arith, low, high)

greatest_once : (rows : List (List EdgeData)) (n bound : ℕ) (x y : List ℕ) → IsGreatest (target_sum rows) (length rows) n bound x
    → IsGreatest (target_sum rows) (length rows) n bound y → x ≡ y
greatest_once rows n bound x y here there =
    same_number_lists x y (here.solution.size ∙ sym there.solution.size)
    (λ place inside.
    let low = here.greatest y there.solution place in
    let high = there.greatest x here.solution place in
    omega (arith, low, high))

abbrev vector_at : ℕ → List ℕ → VectorData
vector_at bound weights = record { bound = bound; weights = weights }

vector_once : (rows : List (List EdgeData)) (n most : ℕ) (v w : VectorData) → IsLeastVector rows n most v → IsLeastVector rows n most w → v ≡ w
vector_once rows n most v w here there =
    let bounds : v.bound ≡ w.bound = bound_once rows n v.bound w.bound here.least there.least in
    let other : IsGreatest (target_sum rows) (length rows) n v.bound w.weights =
    subst (λ b. IsGreatest (target_sum rows) (length rows) n b w.weights) (sym bounds) there.greatest in
    let weights : v.weights ≡ w.weights = greatest_once rows n v.bound v.weights w.weights here.greatest other in
    ap (λ b. vector_at b v.weights) bounds ∙ ap (λ x. vector_at w.bound x) weights

none_once : (rows : List (List EdgeData)) (n most : ℕ) (a b : Unit {0}) → HasNoVector rows n most → HasNoVector rows n most → a ≡ b
none_once rows n most a b here there = refl

not_both : (rows : List (List EdgeData)) (n most : ℕ) (v : VectorData) (none : Unit {0}) → IsLeastVector rows n most v → HasNoVector rows n most → ⊥
not_both rows n most v none is has =
    has is.least.some.0 (vector_within (target_sum rows) (length rows) n v.bound most is.least.some.0 is.within is.least.some.1)

pub vector_is_single : (rows : List (List EdgeData)) (n most : ℕ) → IsSingle (VectorOf rows n most)
vector_is_single rows n most = λ files. reads_is_single _ (IsLeastVector rows n most) (λ (none : Unit {0}). HasNoVector rows n most) (λ (none : Unit {0}). NoVector) (vector_once rows n most) (none_once rows n most) (not_both rows n most)

-- ---- what the function answers

pub vector_is_least : (cover : CoverData) (q n most : ℕ) (rows : List (List EdgeData)) (matrix : List (List ℕ)) (vector : ℕ × List ℕ) → IsPower cover q rows → CountsWords cover q matrix
    → vector.0 ≤ most → IsLeastBound (row_sum matrix) (length matrix) n vector.0 → IsGreatest (row_sum matrix) (length matrix) n vector.0 vector.1
    → IsLeastVector rows n most (vector_data vector)
vector_is_least cover q n most rows matrix vector power words within least greatest =
    let agree = sums_agree cover q rows matrix power words in
    record {
      within = within;
      least = least_by (length rows) n vector.0 (row_sum matrix) (target_sum rows) agree.1 (subst (λ count. IsLeastBound (row_sum matrix) count n vector.0) agree.0 least);
      greatest = greatest_by (length rows) n vector.0 (row_sum matrix) (target_sum rows) vector.1 agree.1
          (subst (λ count. IsGreatest (row_sum matrix) count n vector.0 vector.1) agree.0 greatest);
    }

-- what was found over the counts is so over the power
pub found_is_least : {E : Type 0} (cover : CoverData) (q n most : ℕ) (rows : List (List EdgeData)) (matrix : List (List ℕ)) (found : Result (Option (ℕ × List ℕ)) E)
    → IsPower cover q rows → CountsWords cover q matrix → IfOk found (λ o. IfSome o (λ f. f.0 ≤ most))
    → IfOk found (λ o. IfSome o (λ f. IsLeastBound (row_sum matrix) (length matrix) n f.0))
    → IfOk found (λ o. IfSome o (λ f. IsGreatest (row_sum matrix) (length matrix) n f.0 f.1))
    → IfOk found (λ o. IfSome o (λ f. IsLeastVector rows n most (vector_data f)))
found_is_least cover q n most rows matrix (Ok (Some vector)) power words within least greatest = vector_is_least cover q n most rows matrix vector power words within least greatest
found_is_least cover q n most rows matrix (Ok None) power words within least greatest = tt
found_is_least cover q n most rows matrix (Err e) power words within least greatest = tt

pub none_is_found : {E : Type 0} (cover : CoverData) (q n most : ℕ) (rows : List (List EdgeData)) (matrix : List (List ℕ)) (found : Result (Option (ℕ × List ℕ)) E)
    → IsPower cover q rows → CountsWords cover q matrix
    → IfOk found (λ o. IfNone o ((x : List ℕ) → IsVector (row_sum matrix) (length matrix) n most x → ⊥))
    → IfOk found (λ o. IfNone o (HasNoVector rows n most))
none_is_found cover q n most rows matrix (Ok (Some vector)) power words none = tt
none_is_found cover q n most rows matrix (Ok None) power words none = λ x vector.
    let agree = sums_agree cover q rows matrix power words in
    none x (subst (λ count. IsVector (row_sum matrix) count n most x) (sym agree.0)
    (vector_by (length rows) n most (target_sum rows) (row_sum matrix) x (agree_back (length rows) (row_sum matrix) (target_sum rows) agree.1) vector))
none_is_found cover q n most rows matrix (Err e) power words none = tt

pub vector_is_given : (rows : List (List EdgeData)) (n most : ℕ) (vector : ℕ × List ℕ) → IsLeastVector rows n most (vector_data vector)
    → Decides vector_data (VectorOf rows n most) (Ok vector)
vector_is_given rows n most vector is =
    reads_value _ _ (IsLeastVector rows n most) (λ (none : Unit {0}). HasNoVector rows n most) (λ (none : Unit {0}). NoVector) vector_data vector is

pub no_vector_is_given : (rows : List (List EdgeData)) (n most : ℕ) → HasNoVector rows n most → Decides vector_data (VectorOf rows n most) (Err NoVector)
no_vector_is_given rows n most none =
    reads_fault _ _ (IsLeastVector rows n most) (λ (none : Unit {0}). HasNoVector rows n most) (λ (none : Unit {0}). NoVector) vector_data tt none no_vector_is_alone

pub ruleset vectors = (vector_is_given, no_vector_is_given)

-- ---- what the sink needs of it

pub vector_is_nonzero : (rows : List (List EdgeData)) (n most : ℕ) (vector : VectorData) → IsLeastVector rows n most vector → IsNonzero vector.weights
vector_is_nonzero rows n most vector is =
    let some = is.least.some in
    let above = some.1.nonzero in
    let more = is.greatest.greatest some.0 some.1.solution above.0 in
    let up = above.1 in
    (above.0, omega (arith, up, more))

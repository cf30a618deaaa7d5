-- The order of words: its test, and that it is strict and total.
use Rattle.std.proofs.Common.{◌≡◌, ◌≢◌, ◌↔◌, IsTrue, ℕ, Bool, true, false, List, [], ◌∷◌, length, ◌⊎◌, inl, inr, refl, sym, ap, ◌∙◌, arith, true≢false}
use Rattle.std.proofs.lemmas.Bool.{cases_order}
use Rattle.std.proofs.lemmas.Bool.Decides.{nat_tests}
use Rattle.std.specs.Ordering.{is_lt, nat_cmp}
use Rattle.std.specs.Cmp.Lexicographic.{slice_cmp}
use Rattle.symbol_base.specs.Word.{IsSmallerAtFirst, IsBefore, comes_before}

smaller_from : (u v : List ℕ) → length u ≡ length v → is_lt (slice_cmp nat_cmp u v) ≡ true → IsSmallerAtFirst u v
smaller_from [] [] same less = absurd cc
smaller_from [] (t ∷ v) same less = absurd (omega arith)
smaller_from (s ∷ u) [] same less = absurd (omega arith)
smaller_from (s ∷ u) (t ∷ v) same less = grind (arith, nat_tests, smaller_from u v (omega arith))

smaller_to : (u v : List ℕ) → IsSmallerAtFirst u v → is_lt (slice_cmp nat_cmp u v) ≡ true
smaller_to [] v less = absurd less
smaller_to (s ∷ u) [] less = absurd less
smaller_to (s ∷ u) (t ∷ v) (inl first) = grind (arith, nat_tests)
smaller_to (s ∷ u) (t ∷ v) (inr later) = let rest = smaller_to u v later.1 in grind (arith, nat_tests)

-- the test holds exactly where the order does
pub before_from : (u v : List ℕ) → comes_before u v ≡ true → IsBefore u v
before_from u v e = grind (arith, nat_tests, smaller_from u v)

pub before_to : (u v : List ℕ) → IsBefore u v → comes_before u v ≡ true
before_to u v (inl shorter) = grind (arith, nat_tests)
before_to u v (inr same) = let less = smaller_to u v same.1 in grind (arith, nat_tests)

pub test_tells : (u v : List ℕ) (test : Bool) → test ≡ comes_before u v → IsTrue test ↔ IsBefore u v
test_tells u v test is = (λ h. before_from u v (sym is ∙ h), λ before. is ∙ before_to u v before)

-- ---- no word comes before itself

not_smaller : (u : List ℕ) → IsSmallerAtFirst u u → ⊥
not_smaller [] h = h
not_smaller (s ∷ u) (inl h) = omega arith
not_smaller (s ∷ u) (inr h) = not_smaller u h.1

pub not_before_itself : (u : List ℕ) → IsBefore u u → ⊥
not_before_itself u (inl h) = omega arith
not_before_itself u (inr h) = not_smaller u h.1

-- ---- what comes before a word comes before those behind it

smaller_on : (u v w : List ℕ) → IsSmallerAtFirst u v → IsSmallerAtFirst v w → IsSmallerAtFirst u w
smaller_on [] v w h k = absurd h
smaller_on (s ∷ u) [] w h k = absurd h
smaller_on (s ∷ u) (t ∷ v) [] h k = absurd k
smaller_on (s ∷ u) (t ∷ v) (r ∷ w) (inl h) (inl k) = inl (omega arith)
smaller_on (s ∷ u) (t ∷ v) (r ∷ w) (inl h) (inr k) = let e = k.0 in inl (omega arith)
smaller_on (s ∷ u) (t ∷ v) (r ∷ w) (inr h) (inl k) = let e = h.0 in inl (omega arith)
smaller_on (s ∷ u) (t ∷ v) (r ∷ w) (inr h) (inr k) = inr (h.0 ∙ k.0, smaller_on u v w h.1 k.1)

pub before_on : (u v w : List ℕ) → IsBefore u v → IsBefore v w → IsBefore u w
before_on u v w (inl h) (inl k) = inl (omega arith)
before_on u v w (inl h) (inr k) = let e = k.0 in inl (omega arith)
before_on u v w (inr h) (inl k) = let e = h.0 in inl (omega arith)
before_on u v w (inr h) (inr k) = inr (h.0 ∙ k.0, smaller_on u v w h.1 k.1)

-- ---- of two words that differ one comes before the other

smaller_or_same : (u v : List ℕ) → length u ≡ length v → IsSmallerAtFirst u v ⊎ ((u ≡ v) ⊎ IsSmallerAtFirst v u)
smaller_or_same [] [] same = inr (inl refl)
smaller_or_same [] (t ∷ v) same = absurd (omega arith)
smaller_or_same (s ∷ u) [] same = absurd (omega arith)
smaller_or_same (s ∷ u) (t ∷ v) same = elim (cases_order s t) [
  | inl first ↦ elim (smaller_or_same u v (omega arith)) [
    | inl less ↦ inl (inr (first, less))
    | inr (inl rest) ↦ inr (inl (ap (λ (x : ℕ). x ∷ u) first ∙ ap (λ (w : List ℕ). t ∷ w) rest))
    | inr (inr more) ↦ inr (inr (inr (sym first, more)))
  ]
  | inr (inl less) ↦ inl (inl less)
  | inr (inr more) ↦ inr (inr (inl more))
]

pub before_or_same : (u v : List ℕ) → IsBefore u v ⊎ ((u ≡ v) ⊎ IsBefore v u)
before_or_same u v = elim (cases_order (length u) (length v)) [
  | inl same ↦ elim (smaller_or_same u v same) [
    | inl less ↦ inl (inr (same, less))
    | inr (inl equal) ↦ inr (inl equal)
    | inr (inr more) ↦ inr (inr (inr (sym same, more)))
  ]
  | inr (inl less) ↦ inl (inl less)
  | inr (inr more) ↦ inr (inr (inl more))
]

pub behind : (u v : List ℕ) → comes_before u v ≡ false → u ≢ v → IsBefore v u
behind u v test other = elim (before_or_same u v) [
  | inl before ↦ absurd (true≢false (sym (before_to u v before) ∙ test))
  | inr (inl same) ↦ absurd (other same)
  | inr (inr after) ↦ after
]

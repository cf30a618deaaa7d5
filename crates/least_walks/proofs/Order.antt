-- The order of words, and words with one more label behind.
use Rattle.std.proofs.Common.{◌≡◌, ℕ, ◌+◌, ◌<◌, inl, inr, List, [], ◌∷◌, ◌++◌, length, length-append, refl, ap, sym, ◌∙◌, subst, arith}
use Rattle.symbol_base.specs.Word.{IsSmallerAtFirst, IsBefore}
use Rattle.least_walks.specs.LeastWalk.{IsAtMost}

smaller_more : (u w : List ℕ) (x y : ℕ) → IsSmallerAtFirst u w → IsSmallerAtFirst (u ++ x ∷ []) (w ++ y ∷ [])
smaller_more [] w x y h = absurd h
smaller_more (s ∷ u) [] x y h = absurd h
smaller_more (s ∷ u) (t ∷ w) x y (inl h) = inl h
smaller_more (s ∷ u) (t ∷ w) x y (inr h) = inr (h.0, smaller_more u w x y h.1)

smaller_last : (u : List ℕ) (x y : ℕ) → x < y → IsSmallerAtFirst (u ++ x ∷ []) (u ++ y ∷ [])
smaller_last [] x y h = inl h
smaller_last (s ∷ u) x y h = inr (refl, smaller_last u x y h)

smaller_trans : (u v w : List ℕ) → IsSmallerAtFirst u v → IsSmallerAtFirst v w → IsSmallerAtFirst u w
smaller_trans [] v w h k = absurd h
smaller_trans (r ∷ u) [] w h k = absurd h
smaller_trans (r ∷ u) (s ∷ v) [] h k = absurd k
smaller_trans (r ∷ u) (s ∷ v) (t ∷ w) (inl h) (inl k) = inl (omega arith)
smaller_trans (r ∷ u) (s ∷ v) (t ∷ w) (inl h) (inr k) = inl (omega arith)
smaller_trans (r ∷ u) (s ∷ v) (t ∷ w) (inr h) (inl k) = inl (omega arith)
smaller_trans (r ∷ u) (s ∷ v) (t ∷ w) (inr h) (inr k) = inr (h.0 ∙ k.0, smaller_trans u v w h.1 k.1)

length_more : (u : List ℕ) (x : ℕ) → length (u ++ x ∷ []) ≡ length u + 1
length_more u x = length-append u (x ∷ [])

-- a word before another one stays so with one more label behind each
pub before_more : (u w : List ℕ) (x y : ℕ) → IsBefore u w → IsBefore (u ++ x ∷ []) (w ++ y ∷ [])
before_more u w x y (inl h) = inl (omega (arith, length_more u x, length_more w y))
before_more u w x y (inr h) = inr (omega (arith, length_more u x, length_more w y), smaller_more u w x y h.1)

pub before_last : (u : List ℕ) (x y : ℕ) → x < y → IsBefore (u ++ x ∷ []) (u ++ y ∷ [])
before_last u x y h = inr (omega (arith, length_more u x, length_more u y), smaller_last u x y h)

pub before_longer : (u : List ℕ) (x : ℕ) → IsBefore u (u ++ x ∷ [])
before_longer u x = inl (omega (arith, length_more u x))

pub nil_before : (u : List ℕ) (x : ℕ) → IsBefore [] (u ++ x ∷ [])
nil_before u x = inl (omega (arith, length_more u x))

pub before_trans : (u v w : List ℕ) → IsBefore u v → IsBefore v w → IsBefore u w
before_trans u v w (inl h) (inl k) = inl (omega arith)
before_trans u v w (inl h) (inr k) = inl (omega arith)
before_trans u v w (inr h) (inl k) = inl (omega arith)
before_trans u v w (inr h) (inr k) = inr (h.0 ∙ k.0, smaller_trans u v w h.1 k.1)

pub most_trans : (u v w : List ℕ) → IsAtMost u v → IsAtMost v w → IsAtMost u w
most_trans u v w (inl h) k = subst (λ v. IsAtMost v w) (sym h) k
most_trans u v w (inr h) (inl k) = inr (subst (λ w. IsBefore u w) k h)
most_trans u v w (inr h) (inr k) = inr (before_trans u v w h k)

pub most_more : (u w : List ℕ) (x : ℕ) → IsAtMost u w → IsAtMost (u ++ x ∷ []) (w ++ x ∷ [])
most_more u w x (inl h) = inl (ap (λ u. u ++ x ∷ []) h)
most_more u w x (inr h) = inr (before_more u w x x h)

-- The order of words, and the cases of two numbers.
use Rattle.std.proofs.Common.{ℕ, inl, inr, List, [], ◌∷◌, ◌∙◌, arith}
use Rattle.symbol_base.specs.Word.{IsBefore, IsSmallerAtFirst}

smaller-trans :
    (u v w : List ℕ) → IsSmallerAtFirst u v → IsSmallerAtFirst v w → IsSmallerAtFirst u w
smaller-trans [] v w a b = absurd a
smaller-trans (s ∷ u) [] w a b = absurd a
smaller-trans (s ∷ u) (t ∷ v) [] a b = absurd b
smaller-trans (s ∷ u) (t ∷ v) (r ∷ w) (inl a) (inl b) = inl (omega (arith, a, b))
smaller-trans (s ∷ u) (t ∷ v) (r ∷ w) (inl a) (inr b) = inl (omega (arith, a, b.0))
smaller-trans (s ∷ u) (t ∷ v) (r ∷ w) (inr a) (inl b) = inl (omega (arith, a.0, b))
smaller-trans (s ∷ u) (t ∷ v) (r ∷ w) (inr a) (inr b) = inr (a.0 ∙ b.0, smaller-trans u v w a.1 b.1)

pub before-trans : (u v w : List ℕ) → IsBefore u v → IsBefore v w → IsBefore u w
before-trans u v w (inl a) (inl b) = inl (omega (arith, a, b))
before-trans u v w (inl a) (inr b) = inl (omega (arith, a, b.0))
before-trans u v w (inr a) (inl b) = inl (omega (arith, a.0, b))
before-trans u v w (inr a) (inr b) = inr (a.0 ∙ b.0, smaller-trans u v w a.1 b.1)

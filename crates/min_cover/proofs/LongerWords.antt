-- The order of words, where they grow at their ends.
use Rattle.std.proofs.Common.{◌≡◌, ℕ, ◌+◌, ◌<◌, inl, inr, List, [], ◌∷◌, ◌++◌, refl, ap, sym, ◌∙◌, subst, length, length-append, arith}
use Rattle.symbol_base.specs.Word.{IsBefore, IsSmallerAtFirst}
use Rattle.label_graphs.proofs.WordOrder.{before-trans}
use Rattle.min_cover.specs.inside.Machine.{IsUpTo}

smaller-append :
    (u v x y : List ℕ) → IsSmallerAtFirst u v → IsSmallerAtFirst (u ++ x) (v ++ y)
smaller-append [] v x y smaller = absurd smaller
smaller-append (s ∷ u) [] x y smaller = absurd smaller
smaller-append (s ∷ u) (t ∷ v) x y (inl less) = inl less
smaller-append (s ∷ u) (t ∷ v) x y (inr rest) = inr (rest.0, smaller-append u v x y rest.1)

-- one more symbol at the end of both keeps their order
pub before-snoc : (u v : List ℕ) (symbol : ℕ) → IsBefore u v → IsBefore (u ++ symbol ∷ []) (v ++ symbol ∷ [])
before-snoc u v symbol (inl shorter) =
    let a : length (u ++ symbol ∷ []) ≡ length u + 1 = length-append u (symbol ∷ []) in
    let b : length (v ++ symbol ∷ []) ≡ length v + 1 = length-append v (symbol ∷ []) in
    inl (omega (arith, a, b, shorter))
before-snoc u v symbol (inr both) =
    let a : length (u ++ symbol ∷ []) ≡ length u + 1 = length-append u (symbol ∷ []) in
    let b : length (v ++ symbol ∷ []) ≡ length v + 1 = length-append v (symbol ∷ []) in
    inr (omega (arith, a, b, both.0), smaller-append u v (symbol ∷ []) (symbol ∷ []) both.1)

pub up_to-snoc : (u v : List ℕ) (symbol : ℕ) → IsUpTo u v → IsUpTo (u ++ symbol ∷ []) (v ++ symbol ∷ [])
up_to-snoc u v symbol (inl same) = inl (ap (λ w. w ++ symbol ∷ []) same)
up_to-snoc u v symbol (inr less) = inr (before-snoc u v symbol less)

pub up_to-trans : (u v w : List ℕ) → IsUpTo u v → IsUpTo v w → IsUpTo u w
up_to-trans u v w (inl a) (inl b) = inl (a ∙ b)
up_to-trans u v w (inl a) (inr b) = inr (subst (λ x. IsBefore x w) (sym a) b)
up_to-trans u v w (inr a) (inl b) = inr (subst (λ x. IsBefore u x) b a)
up_to-trans u v w (inr a) (inr b) = inr (before-trans u v w a b)

pub before-up_to : (u v w : List ℕ) → IsBefore u v → IsUpTo v w → IsBefore u w
before-up_to u v w a (inl b) = subst (λ x. IsBefore u x) b a
before-up_to u v w a (inr b) = before-trans u v w a b

-- a word that comes before keeps coming before, whatever symbols come at the ends
pub before-grow : (u v : List ℕ) (s t : ℕ) → IsBefore u v → IsBefore (u ++ s ∷ []) (v ++ t ∷ [])
before-grow u v s t (inl shorter) =
    let a : length (u ++ s ∷ []) ≡ length u + 1 = length-append u (s ∷ []) in
    let b : length (v ++ t ∷ []) ≡ length v + 1 = length-append v (t ∷ []) in
    inl (omega (arith, a, b, shorter))
before-grow u v s t (inr both) =
    let a : length (u ++ s ∷ []) ≡ length u + 1 = length-append u (s ∷ []) in
    let b : length (v ++ t ∷ []) ≡ length v + 1 = length-append v (t ∷ []) in
    inr (omega (arith, a, b, both.0), smaller-append u v (s ∷ []) (t ∷ []) both.1)

smaller-last : (w : List ℕ) (s t : ℕ) → s < t → IsSmallerAtFirst (w ++ s ∷ []) (w ++ t ∷ [])
smaller-last [] s t less = inl less
smaller-last (r ∷ w) s t less = inr (refl, smaller-last w s t less)

-- a lesser last symbol makes a lesser word
pub last-grow : (w : List ℕ) (s t : ℕ) → s < t → IsBefore (w ++ s ∷ []) (w ++ t ∷ [])
last-grow w s t less =
    let a : length (w ++ s ∷ []) ≡ length w + 1 = length-append w (s ∷ []) in
    let b : length (w ++ t ∷ []) ≡ length w + 1 = length-append w (t ∷ []) in
    inr (omega (arith, a, b), smaller-last w s t less)

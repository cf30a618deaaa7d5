-- Ambiguous pairs of walks, and the least of them.
use Rattle.std.proofs.Common.{◌≡◌, ◌↔◌, ℕ, inl, inr, ⊎_elim, List, [], ◌∷◌, get_or, sym, arith}
use Rattle.std.proofs.lemmas.Bool.{cases_eq}
use Rattle.symbol_base.specs.Word.{IsSmallerAtFirst, IsBefore}
use Rattle.code_spec.specs.declared.Walk.{Walk}
use Rattle.code_spec.specs.Code.{CodeData}
use Rattle.code_spec.specs.Checked.{Separates}
use Rattle.code_spec.specs.Witness.{IsLeastOutside, IsAmbiguous, IsLeastAmbiguous, IsPairBefore, in_pairs}

-- where the window tells the word no pair is ambiguous
told_apart :
    (c : CodeData) (past ahead : ℕ) → Separates c past ahead → (first second : Walk)
    → IsAmbiguous c past ahead first second → ⊥
told_apart c past ahead separates first second pair =
    pair.unlike
    (separates first.state second.state first.words second.words pair.one.state pair.other.state pair.one.words
    pair.other.words pair.one.counted pair.other.counted pair.blocks)

-- where no pair is ambiguous the window tells the word
separated :
    (c : CodeData) (past ahead : ℕ) → ((first second : Walk) → IsAmbiguous c past ahead first second → ⊥)
    → Separates c past ahead
separated c past ahead none s t xs ys inside inside' below below' count count' blocks =
    ⊎_elim (λ (same : get_or xs past 0 ≡ get_or ys past 0). same)
    (λ unlike.
    absurd
    (none (record { state = s; words = xs }) (record { state = t; words = ys })
    (record {
      one = record { state = inside; words = below; counted = count };
      other = record { state = inside'; words = below'; counted = count' };
      blocks = blocks;
      unlike = unlike;
    })))
    (cases_eq (get_or xs past 0) (get_or ys past 0))

pub separates_unless_ambiguous :
    (c : CodeData) (past ahead : ℕ)
    → Separates c past ahead ↔ ((first second : Walk) → IsAmbiguous c past ahead first second → ⊥)
separates_unless_ambiguous c past ahead = (told_apart c past ahead, separated c past ahead)

not_both_smaller : (u v : List ℕ) → IsSmallerAtFirst u v → IsSmallerAtFirst v u → ⊥
not_both_smaller [] v smaller greater = smaller
not_both_smaller (s ∷ u) [] smaller greater = smaller
not_both_smaller (s ∷ u) (t ∷ v) (inl smaller) (inl greater) = absurd (omega (arith, smaller, greater))
not_both_smaller (s ∷ u) (t ∷ v) (inl smaller) (inr same) = absurd (omega (arith, smaller, same.0))
not_both_smaller (s ∷ u) (t ∷ v) (inr same) (inl greater) = absurd (omega (arith, greater, same.0))
not_both_smaller (s ∷ u) (t ∷ v) (inr same) (inr other) = not_both_smaller u v same.1 other.1

pub least_is_one :
    (c : CodeData) (past ahead : ℕ) (first second first' second' : Walk) → IsLeastAmbiguous c past ahead first second
    → IsLeastAmbiguous c past ahead first' second' → (first ≡ first') × (second ≡ second')
least_is_one c past ahead first second first' second' is other =
    ⊎_elim (λ (same : (first ≡ first') × (second ≡ second')). same)
    (λ (before : IsPairBefore first second first' second').
    ⊎_elim (λ (same : (first' ≡ first) × (second' ≡ second)). (sym same.0, sym same.1))
    (λ (after : IsPairBefore first' second' first second).
    absurd
    (not_both_smaller (first.state ∷ second.state ∷ in_pairs first.words second.words)
    (first'.state ∷ second'.state ∷ in_pairs first'.words second'.words) before after))
    (other.least first second is.ambiguous))
    (is.least first' second' other.ambiguous)

not_both_before : (u v : List ℕ) → IsBefore u v → IsBefore v u → ⊥
not_both_before u v (inl shorter) (inl longer) = omega (arith, shorter, longer)
not_both_before u v (inl shorter) (inr same) = omega (arith, shorter, same.0)
not_both_before u v (inr same) (inl longer) = omega (arith, longer, same.0)
not_both_before u v (inr same) (inr other) = not_both_smaller u v same.1 other.1

pub outside_is_one : (c : CodeData) (words other : List ℕ) → IsLeastOutside c words → IsLeastOutside c other → words ≡ other
outside_is_one c words other is also =
    ⊎_elim (λ (same : words ≡ other). same)
    (λ (before : IsBefore words other).
    ⊎_elim (λ (same : other ≡ words). sym same) (λ (after : IsBefore other words). absurd (not_both_before words other before after))
    (also.least words is.below is.outside))
    (is.least other also.below also.outside)

-- A code has one answer of its check.
use Rattle.std.proofs.Common.{◌≡◌, ◌⊎◌, ◌↔◌, inl, inr, ℕ, ◌<◌, List, length, refl, sym, ap, ◌∙◌, arith}
use Rattle.constraint_spec.specs.Constraint.{ConstraintData, IsWordOf}
use Rattle.label_graphs.specs.Graph.{EdgeData, HasEdge}
use Rattle.label_graphs.specs.Cover.{IsCoverOf}
use Rattle.code_spec.specs.declared.Walk.{Walk}
use Rattle.code_spec.specs.Code.{CodeData}
use Rattle.code_spec.specs.Checked.{Separates, IsCheckedCode}
use Rattle.code_spec.specs.Witness.{IsLeastOutside, IsAmbiguous, IsLeastAmbiguous}
use Rattle.min_cover.specs.StateCounts.{HasCoverOf}
use Rattle.code_check.specs.declared.fault.CheckFault.{CheckFault}
use Rattle.code_check.specs.declared.fault.CheckFault.TheVariants.{RawStates, CoverStates, OutOfConstraint, Ambiguous, NoMemory}
use Rattle.code_check.specs.CheckFault.{IsCheckFault, IsWithinLimits}

-- a constraint has one cover
abbrev pub OneCover : Type 0
OneCover =
    (c : ConstraintData) (rows others : List (List EdgeData)) → IsCoverOf (IsWordOf c) rows → IsCoverOf (IsWordOf c) others
    → (length rows ≡ length others) × ((from symbol to : ℕ) → HasEdge rows from symbol to ↔ HasEdge others from symbol to)

large_cover : OneCover → (c : ConstraintData) (count : ℕ) → IsWithinLimits c → HasCoverOf c count → 256 < count → ⊥
large_cover one c count limits cover more =
    let same = (one c cover.0 limits.cover cover.2 limits.is).0 in omega (arith, same, cover.1, limits.few, more)

-- a checked code within the limits has no fault
pub checked_has_none :
    OneCover → ((c : CodeData) (past ahead : ℕ) → Separates c past ahead ↔ ((first second : Walk) → IsAmbiguous c past ahead first second → ⊥))
    → (c : CodeData) (fault : CheckFault) → IsCheckedCode c → IsWithinLimits c.constraint → IsCheckFault c fault → fault ≡ NoMemory
checked_has_none one separates c (RawStates count) checked limits is = absurd (limits.raw_states is.0)
checked_has_none one separates c (CoverStates count) checked limits is = absurd (large_cover one c.constraint count limits is.1 is.0)
checked_has_none one separates c (OutOfConstraint words) checked limits is = absurd (is.1.outside (checked.words words is.1.below))
checked_has_none one separates c (Ambiguous first second) checked limits is =
    absurd ((separates c c.past c.ahead).0 checked.window first second is.2.ambiguous)
checked_has_none one separates c NoMemory checked limits is = refl

abbrev Other : CheckFault → CheckFault → Type 0
Other fault other = (fault ≡ NoMemory) ⊎ ((other ≡ NoMemory) ⊎ (fault ≡ other))

-- two faults of a code are one, where neither is want of memory
pub one_fault :
    OneCover
    → ((c : CodeData) (words other : List ℕ) → IsLeastOutside c words → IsLeastOutside c other → words ≡ other)
    → ((c : CodeData) (past ahead : ℕ) (first second first' second' : Walk) → IsLeastAmbiguous c past ahead first second
    → IsLeastAmbiguous c past ahead first' second' → (first ≡ first') × (second ≡ second'))
    → (c : CodeData) (fault other : CheckFault) → IsCheckFault c fault → IsCheckFault c other
    → (fault ≡ NoMemory) ⊎ ((other ≡ NoMemory) ⊎ (fault ≡ other))
one_fault one words pairs c NoMemory other is also = inl refl
one_fault one words pairs c (RawStates count) NoMemory is also = inr (inl refl)
one_fault one words pairs c (CoverStates count) NoMemory is also = inr (inl refl)
one_fault one words pairs c (OutOfConstraint list) NoMemory is also = inr (inl refl)
one_fault one words pairs c (Ambiguous first second) NoMemory is also = inr (inl refl)
one_fault one words pairs c (RawStates count) (RawStates more) is also = inr (inr (ap RawStates (is.1 ∙ sym also.1)))
one_fault one words pairs c (RawStates count) (CoverStates more) is also = absurd (also.2 is.0)
one_fault one words pairs c (RawStates count) (OutOfConstraint list) is also = absurd (also.0.raw_states is.0)
one_fault one words pairs c (RawStates count) (Ambiguous first second) is also = absurd (also.0.raw_states is.0)
one_fault one words pairs c (CoverStates count) (RawStates more) is also = absurd (is.2 also.0)
one_fault one words pairs c (CoverStates count) (CoverStates more) is also =
    let same = (one c.constraint is.1.0 also.1.0 is.1.2 also.1.2).0 in inr (inr (ap CoverStates (sym is.1.1 ∙ same ∙ also.1.1)))
one_fault one words pairs c (CoverStates count) (OutOfConstraint list) is also = absurd (large_cover one c.constraint count also.0 is.1 is.0)
one_fault one words pairs c (CoverStates count) (Ambiguous first second) is also = absurd (large_cover one c.constraint count also.0 is.1 is.0)
one_fault one words pairs c (OutOfConstraint list) (RawStates more) is also = absurd (is.0.raw_states also.0)
one_fault one words pairs c (OutOfConstraint list) (CoverStates more) is also = absurd (large_cover one c.constraint more is.0 also.1 also.0)
one_fault one words pairs c (OutOfConstraint list) (OutOfConstraint others) is also = inr (inr (ap OutOfConstraint (words c list others is.1 also.1)))
one_fault one words pairs c (OutOfConstraint list) (Ambiguous first second) is also = absurd (is.1.outside (also.1 list is.1.below))
one_fault one words pairs c (Ambiguous first second) (RawStates more) is also = absurd (is.0.raw_states also.0)
one_fault one words pairs c (Ambiguous first second) (CoverStates more) is also = absurd (large_cover one c.constraint more is.0 also.1 also.0)
one_fault one words pairs c (Ambiguous first second) (OutOfConstraint list) is also = absurd (also.1.outside (is.1 list also.1.below))
one_fault one words pairs c (Ambiguous first second) (Ambiguous first' second') is also =
    let same = pairs c c.past c.ahead first second first' second' is.2 also.2 in
    inr (inr (ap (λ walk. Ambiguous walk second) same.0 ∙ ap (λ walk. Ambiguous first' walk) same.1))

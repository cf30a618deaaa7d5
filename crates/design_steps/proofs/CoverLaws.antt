-- What finding a cover says of the step that it is, and that the step has one outcome.
use Rattle.std.proofs.Common.{◌≡◌, ℕ, List, length, Ok, Err, refl, sym, ap, ◌∙◌, arith}
use Rattle.constraint_spec.specs.Constraint.{ConstraintData, IsWordOf}
use Rattle.label_graphs.specs.Graph.{EdgeData, IsGraph, HasEdge}
use Rattle.label_graphs.specs.Cover.{CoverData, IsCoverOf, KeepsSymbols}
use Rattle.label_graphs.proofs.EdgeOrder.{same_graphs}
use Rattle.label_graphs.proofs.Unique.{one-cover}
use Rattle.min_cover.specs.declared.fault.CoverFault.{CoverFault}
use Rattle.min_cover.specs.declared.fault.CoverFault.TheVariants as faults
use Rattle.min_cover.specs.CoverFault.{IsCoverFault}
use Rattle.min_cover.specs.StateCounts.{HaveRawStates, HasCoverOf}
use Rattle.command_steps.specs.declared.status.Limit.TheVariants.{RawStates, CoverStates}
use Rattle.command_steps.specs.declared.status.Status.TheVariants.{TooLarge}
use Rattle.command_steps.specs.Step.{IsSingle}
use Rattle.command_steps.specs.Promise.{Decides}
use Rattle.steps.proofs.StepLaws.{reads_value, reads_fault, reads_is_single}
use Rattle.command_steps.proofs.StepLaws.{too_large_is_alone}
use Rattle.design_steps.specs.Covers.{IsCoverWithin, cover_status, CoverOf}

-- ---- a constraint has one cover

abbrev cover_data : List (List EdgeData) → ℕ → CoverData
cover_data rows alphabet = record { graph = rows; alphabet = alphabet }

cover_once : (c : ConstraintData) (cover other : CoverData) → IsCoverWithin c cover → IsCoverWithin c other → cover ≡ other
cover_once c cover other here there =
    let one = one-cover (IsWordOf c) (length cover.graph) (length other.graph) (HasEdge cover.graph) (HasEdge other.graph) here.is there.is in
    let rows : cover.graph ≡ other.graph = same_graphs cover.graph other.graph here.graph there.graph one.0 (λ from block to. (one.1 from block to).0) (λ from block to. (one.1 from block to).1) in
    let symbols : cover.alphabet ≡ other.alphabet = here.alphabet ∙ sym there.alphabet in
    ap (λ rows. cover_data rows cover.alphabet) rows ∙ ap (λ n. cover_data other.graph n) symbols

-- ---- and one fault

count_once : (c : ConstraintData) (n m : ℕ) → HasCoverOf c n → HasCoverOf c m → n ≡ m
count_once c n m here there =
    let one = one-cover (IsWordOf c) (length here.0) (length there.0) (HasEdge here.0) (HasEdge there.0) here.2 there.2 in
    sym here.1 ∙ one.0 ∙ there.1

fault_once : (c : ConstraintData) (a b : CoverFault) → IsCoverFault c a × (a ≡ faults.NoMemory → ⊥) → IsCoverFault c b × (b ≡ faults.NoMemory → ⊥) → a ≡ b
fault_once c (faults.RawStates n) (faults.RawStates m) here there = ap faults.RawStates (here.0.1 ∙ sym there.0.1)
fault_once c (faults.RawStates n) (faults.CoverStates m) here there = absurd (there.0.2 here.0.0)
fault_once c (faults.CoverStates n) (faults.RawStates m) here there = absurd (here.0.2 there.0.0)
fault_once c (faults.CoverStates n) (faults.CoverStates m) here there = ap faults.CoverStates (count_once c n m here.0.1 there.0.1)
fault_once c faults.NoMemory b here there = absurd (here.1 refl)
fault_once c a faults.NoMemory here there = absurd (there.1 refl)

not_both : (c : ConstraintData) (cover : CoverData) (fault : CoverFault) → IsCoverWithin c cover → IsCoverFault c fault × (fault ≡ faults.NoMemory → ⊥) → ⊥
not_both c cover (faults.RawStates n) within over = within.few_raw over.0.0
not_both c cover (faults.CoverStates n) within over =
    let many = over.0.1 in
    let one = one-cover (IsWordOf c) (length cover.graph) (length many.0) (HasEdge cover.graph) (HasEdge many.0) within.is many.2 in
    omega (arith, within.few, over.0.0, one.0, many.1)
not_both c cover faults.NoMemory within over = over.1 refl

pub cover_is_single : (c : ConstraintData) → IsSingle (CoverOf c)
cover_is_single c = λ files. reads_is_single _ (IsCoverWithin c) (λ fault. IsCoverFault c fault × (fault ≡ faults.NoMemory → ⊥)) cover_status (cover_once c) (fault_once c) (not_both c)

-- ---- what the function answers

pub cover_is_within : (c : ConstraintData) (cover : CoverData) → IsCoverOf (IsWordOf c) cover.graph → IsGraph cover.graph → cover.alphabet ≡ c.alphabet
    → (HaveRawStates c 4097 → ⊥) → KeepsSymbols cover → Decides (λ (k : CoverData). k) (CoverOf c) (Ok cover)
cover_is_within c cover is graph alphabet few keeps =
    reads_value _ _ (IsCoverWithin c) (λ fault. IsCoverFault c fault × (fault ≡ faults.NoMemory → ⊥)) cover_status (λ (k : CoverData). k) cover
    (record { is = is; graph = graph; alphabet = alphabet; few_raw = few; few = keeps.states.1 })

pub raw_states_are_over : (c : ConstraintData) (count : ℕ) → IsCoverFault c (faults.RawStates count) → Decides (λ (k : CoverData). k) (CoverOf c) (Err (TooLarge (RawStates count)))
raw_states_are_over c count is =
    reads_fault _ _ (IsCoverWithin c) (λ fault. IsCoverFault c fault × (fault ≡ faults.NoMemory → ⊥)) cover_status (λ (k : CoverData). k) (faults.RawStates count)
    (is, λ e. absurd cc) (too_large_is_alone (RawStates count))

pub cover_states_are_over : (c : ConstraintData) (count : ℕ) → IsCoverFault c (faults.CoverStates count) → Decides (λ (k : CoverData). k) (CoverOf c) (Err (TooLarge (CoverStates count)))
cover_states_are_over c count is =
    reads_fault _ _ (IsCoverWithin c) (λ fault. IsCoverFault c fault × (fault ≡ faults.NoMemory → ⊥)) cover_status (λ (k : CoverData). k) (faults.CoverStates count)
    (is, λ e. absurd cc) (too_large_is_alone (CoverStates count))

pub ruleset covers = (cover_is_within, raw_states_are_over, cover_states_are_over)

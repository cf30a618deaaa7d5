-- What finding a memory says of the step that it is, and that the step has one outcome.
use Rattle.std.proofs.Common.{◌≡◌, ℕ, ◌≤◌, List, length, Ok, Err, refl, ap, ◌∙◌, arith}
use Rattle.label_graphs.specs.Graph.{EdgeData, HasEdge}
use Rattle.label_graphs.specs.Memory.{IsMemory}
use Rattle.label_graphs.specs.declared.read_back.TwoStates.{TwoStates}
use Rattle.min_cover.specs.declared.fault.MemoryFault.{MemoryFault}
use Rattle.min_cover.specs.declared.fault.MemoryFault.TheVariants as faults
use Rattle.min_cover.specs.MemoryFault.{IsMemoryFault}
use Rattle.min_cover.proofs.MemoryOnce.{one_memory, one_read_back}
use Rattle.command_steps.specs.declared.status.Limit.TheVariants.{MemoryTooLong}
use Rattle.command_steps.specs.declared.status.Status.TheVariants.{TooLarge, InfiniteMemory}
use Rattle.command_steps.specs.Step.{IsSingle}
use Rattle.command_steps.specs.Promise.{Decides}
use Rattle.steps.proofs.StepLaws.{reads_value, reads_fault, reads_is_single}
use Rattle.command_steps.proofs.StepLaws.{too_large_is_alone, infinite_memory_is_alone}
use Rattle.design_steps.specs.Memories.{IsMemoryWithin, memory_status, MemoryOf}

abbrev IsFault : List (List EdgeData) → MemoryFault → Type 0
IsFault rows fault = IsMemoryFault rows fault × (fault ≡ faults.NoMemory → ⊥)

memory_once : (rows : List (List EdgeData)) (n m : ℕ) → IsMemoryWithin rows n → IsMemoryWithin rows m → n ≡ m
memory_once rows n m here there = one_memory (length rows) (HasEdge rows) n m here.memory there.memory

abbrev two_of : ℕ → ℕ → List ℕ → TwoStates
two_of first second word = record { first = first; second = second; word = word }

two_once : (a b : TwoStates) → (a.first ≡ b.first) × (a.second ≡ b.second) × (a.word ≡ b.word) → a ≡ b
two_once a b same =
    ap (λ n. two_of n a.second a.word) same.0 ∙ ap (λ n. two_of b.first n a.word) same.1 ∙ ap (λ w. two_of b.first b.second w) same.2

fault_once : (rows : List (List EdgeData)) (a b : MemoryFault) → IsFault rows a → IsFault rows b → a ≡ b
fault_once rows (faults.Infinite a) (faults.Infinite b) here there =
    ap faults.Infinite (two_once a b (one_read_back (length rows) (HasEdge rows) a.first a.second b.first b.second a.word b.word here.0.1 there.0.1))
fault_once rows (faults.Infinite a) (faults.TooLong m) here there = absurd (here.0.0 m there.0.1.together)
fault_once rows (faults.TooLong n) (faults.Infinite b) here there = absurd (there.0.0 n here.0.1.together)
fault_once rows (faults.TooLong n) (faults.TooLong m) here there = ap faults.TooLong (one_memory (length rows) (HasEdge rows) n m here.0.1 there.0.1)
fault_once rows faults.NoMemory b here there = absurd (here.1 refl)
fault_once rows a faults.NoMemory here there = absurd (there.1 refl)

not_both : (rows : List (List EdgeData)) (n : ℕ) (fault : MemoryFault) → IsMemoryWithin rows n → IsFault rows fault → ⊥
not_both rows n (faults.Infinite two) within over = over.0.0 n within.memory.together
not_both rows n (faults.TooLong m) within over =
    let same = one_memory (length rows) (HasEdge rows) n m within.memory over.0.1 in omega (arith, within.short, over.0.0, same)
not_both rows n faults.NoMemory within over = over.1 refl

pub memory_is_single : (rows : List (List EdgeData)) → IsSingle (MemoryOf rows)
memory_is_single rows = λ files. reads_is_single _ (IsMemoryWithin rows) (IsFault rows) memory_status (memory_once rows) (fault_once rows) (not_both rows)

-- ---- what the function answers

pub memory_is_within : (rows : List (List EdgeData)) (n : ℕ) → IsMemory (length rows) (HasEdge rows) n → n ≤ 256
    → Decides (λ (m : ℕ). m) (MemoryOf rows) (Ok n)
memory_is_within rows n is short = reads_value _ _ (IsMemoryWithin rows) (IsFault rows) memory_status (λ (m : ℕ). m) n (record { memory = is; short = short })

pub memory_is_infinite : (rows : List (List EdgeData)) (two : TwoStates) → IsMemoryFault rows (faults.Infinite two)
    → Decides (λ (m : ℕ). m) (MemoryOf rows) (Err (InfiniteMemory two))
memory_is_infinite rows two is =
    reads_fault _ _ (IsMemoryWithin rows) (IsFault rows) memory_status (λ (m : ℕ). m) (faults.Infinite two) (is, λ e. absurd cc) (infinite_memory_is_alone two)

pub memory_is_over : (rows : List (List EdgeData)) (n : ℕ) → IsMemoryFault rows (faults.TooLong n)
    → Decides (λ (m : ℕ). m) (MemoryOf rows) (Err (TooLarge (MemoryTooLong n)))
memory_is_over rows n is =
    reads_fault _ _ (IsMemoryWithin rows) (IsFault rows) memory_status (λ (m : ℕ). m) (faults.TooLong n) (is, λ e. absurd cc) (too_large_is_alone (MemoryTooLong n))

pub ruleset memories = (memory_is_within, memory_is_infinite, memory_is_over)

-- What a power says of the step that it is, and that the step has one outcome.
use Rattle.std.proofs.Common.{◌≡◌, ℕ, ◌≤◌, List, Ok, Err, refl, sym, ap, ◌∙◌, arith}
use Rattle.label_graphs.specs.Graph.{EdgeData}
use Rattle.label_graphs.specs.Cover.{CoverData}
use Rattle.label_graphs.specs.Power.{IsPower, edge_count}
use Rattle.label_graphs.proofs.EdgeOrder.{same_graphs}
use Rattle.graph_power.specs.declared.fault.PowerFault.{PowerFault}
use Rattle.graph_power.specs.declared.fault.PowerFault.TheVariants as faults
use Rattle.graph_power.specs.PowerFault.{IsPowerFault}
use Rattle.command_steps.specs.declared.status.Limit.TheVariants.{PowerEdges}
use Rattle.command_steps.specs.declared.status.Status.TheVariants.{TooLarge}
use Rattle.command_steps.specs.Step.{IsSingle}
use Rattle.command_steps.specs.Promise.{Decides}
use Rattle.steps.proofs.StepLaws.{reads_value, reads_fault, reads_is_single}
use Rattle.command_steps.proofs.StepLaws.{too_large_is_alone}
use Rattle.design_steps.specs.Powers.{IsPowerWithin, power_status, PowerOf}

abbrev IsFault : CoverData → ℕ → PowerFault → Type 0
IsFault cover q fault = IsPowerFault cover q fault × (fault ≡ faults.NoMemory → ⊥)

pub one_power : (cover : CoverData) (q : ℕ) (rows others : List (List EdgeData)) → IsPower cover q rows → IsPower cover q others → rows ≡ others
one_power cover q rows others one other =
    same_graphs rows others one.graph other.graph (one.states ∙ sym other.states)
    (λ from block to edge. (other.edges from block to).1 ((one.edges from block to).0 edge))
    (λ from block to edge. (one.edges from block to).1 ((other.edges from block to).0 edge))

power_once : (cover : CoverData) (q : ℕ) (rows others : List (List EdgeData)) → IsPowerWithin cover q rows → IsPowerWithin cover q others → rows ≡ others
power_once cover q rows others here there = one_power cover q rows others here.power there.power

fault_once : (cover : CoverData) (q : ℕ) (a b : PowerFault) → IsFault cover q a → IsFault cover q b → a ≡ b
fault_once cover q (faults.PowerEdges n) (faults.PowerEdges m) here there =
    let rows = ap edge_count (one_power cover q here.0.1.0 there.0.1.0 here.0.1.1 there.0.1.1) in
    ap faults.PowerEdges (sym here.0.1.2 ∙ rows ∙ there.0.1.2)
fault_once cover q faults.NoMemory b here there = absurd (here.1 refl)
fault_once cover q a faults.NoMemory here there = absurd (there.1 refl)

not_both : (cover : CoverData) (q : ℕ) (rows : List (List EdgeData)) (fault : PowerFault) → IsPowerWithin cover q rows → IsFault cover q fault → ⊥
not_both cover q rows (faults.PowerEdges n) within over =
    let same = ap edge_count (one_power cover q rows over.0.1.0 within.power over.0.1.1) in
    omega (arith, within.few, over.0.0, same, over.0.1.2)
not_both cover q rows faults.NoMemory within over = over.1 refl

pub power_is_single : (cover : CoverData) (q : ℕ) → IsSingle (PowerOf cover q)
power_is_single cover q = λ files. reads_is_single _ (IsPowerWithin cover q) (IsFault cover q) power_status (power_once cover q) (fault_once cover q) (not_both cover q)

-- ---- what the function answers

pub power_is_within : (cover : CoverData) (q : ℕ) (rows : List (List EdgeData)) → IsPower cover q rows → edge_count rows ≤ 262144
    → Decides (λ (k : List (List EdgeData)). k) (PowerOf cover q) (Ok rows)
power_is_within cover q rows is few =
    reads_value _ _ (IsPowerWithin cover q) (IsFault cover q) power_status (λ (k : List (List EdgeData)). k) rows (record { power = is; few = few })

pub power_is_over : (cover : CoverData) (q count : ℕ) → IsPowerFault cover q (faults.PowerEdges count)
    → Decides (λ (k : List (List EdgeData)). k) (PowerOf cover q) (Err (TooLarge (PowerEdges count)))
power_is_over cover q count is =
    reads_fault _ _ (IsPowerWithin cover q) (IsFault cover q) power_status (λ (k : List (List EdgeData)). k) (faults.PowerEdges count)
    (is, λ e. absurd cc) (too_large_is_alone (PowerEdges count))

pub ruleset powers = (power_is_within, power_is_over)

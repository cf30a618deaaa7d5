use Rattle.std.proofs.Common.{ℕ, ◌*◌, ◌<◌, List, length, Result, Ok, Err, IfOk, subst}
use Rattle.least_walks.specs.NodeSet.{IsIn}
use Rattle.least_walks.specs.PairGraph.{IsTarget}
use Rattle.code_spec.specs.declared.CodeRow.{CodeRow}
use Rattle.code_spec.specs.Code.{CodeData}
use Rattle.code_check.specs.inside.PairGraph.{pair_graph}
use Rattle.code_check.specs.inside.Landings.{AreRowsByBlock, HoldsPairs}
use Rattle.code_check.proofs.LandingLaws.{target_held, target_inside}
use Rattle.code_check.proofs.pairs.PairsPairGraph.targets.Goals as goal

pub returns-clause-inside : goal.returns-clause-inside
returns-clause-inside c = subst (λ (d : CodeData). (node : ℕ) → IsTarget (pair_graph d) node → node < length d.rows * length d.rows) c.self.view_is (target_inside c.self.inside.code.now c.pairs_led_to.ensures.table)

held : {E : Type 0} (c : CodeData) (answer : Result (List ℕ) E)
    → IfOk answer (λ pairs. (rows : List CodeRow) × AreRowsByBlock c rows × HoldsPairs rows (length c.rows) (length rows) pairs)
    → IfOk answer (λ pairs. (node : ℕ) → IsTarget (pair_graph c) node → IsIn pairs node)
held c (Ok pairs) is = target_held c is.0 pairs is.1 is.2
held c (Err e) is = is

pub returns-clause-targets : goal.returns-clause-targets
returns-clause-targets c =
    subst (λ (d : CodeData). IfOk c.pairs_led_to.result (λ pairs. (node : ℕ) → IsTarget (pair_graph d) node → IsIn pairs node)) c.self.view_is
    (held c.self.inside.code.now c.pairs_led_to.result c.pairs_led_to.ensures.pairs)

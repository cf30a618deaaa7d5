use Rattle.std.proofs.Common.{ℕ, ◌+◌, get_or, sym, ◌∙◌, ap, arith}
use Rattle.std.proofs.lemmas.List.{length-map}
use Rattle.std.proofs.lemmas.Nat.{mod_below}
use Rattle.label_graphs.specs.declared.graph.Edge.{Edge}
use Rattle.label_graphs.specs.Views.{edge_data}
use Rattle.state_split.specs.Views.{edges_data}
use Rattle.state_split.proofs.Seen.{none_seen, residue_more, seen_agrees, one_more_seen, none_agree}
use Rattle.state_split.proofs.run.first_agreeing.Goals as goal

pub loop-at-init : goal.loop-at-init
loop-at-init c = none_seen c.args.n c.args.weights.now (edges_data c.args.ordered.now)

pub returns-in-Some-clause-some : goal.returns-in-Some-clause-some
returns-in-Some-clause-some c =
    let size = length-map c.args.ordered.now (edge_data (λ name. name)) in
    let weight = c.at.ensures ∙ ap (λ k. get_or c.args.weights.now k 0) c.index.ensures.value ∙ ap (λ (e : Edge ℕ). get_or c.args.weights.now e.to 0) (sym c.index-ordered-at.is) in
    let is = residue_more c.args.n c.args.weights.now c.args.ordered.now c.loop-at.at c.at.result c.index-ordered-at.result c.loop-at.residue (omega arith) c.index-ordered-at.is weight c.loop-at.invariant.0 in
    seen_agrees c.args.n c.args.weights.now (edges_data c.args.ordered.now) c.loop-at.at _ c.in-Some.from c.loop-at.seen is (omega arith) (omega (arith, size)) c.in-Some.is c.loop-at.invariant.1

pub loop-at-preserved : goal.loop-at-preserved
loop-at-preserved c =
    let weight = c.at.ensures ∙ ap (λ k. get_or c.args.weights.now k 0) c.index.ensures.value ∙ ap (λ (e : Edge ℕ). get_or c.args.weights.now e.to 0) (sym c.index-ordered-at.is) in
    let is = residue_more c.args.n c.args.weights.now c.args.ordered.now c.loop-at.at c.at.result c.index-ordered-at.result c.loop-at.residue (omega arith) c.index-ordered-at.is weight c.loop-at.invariant.0 in
    let low = mod_below (c.loop-at.residue + c.at.result) c.args.n (omega arith) in
    (is, one_more_seen c.args.n c.args.weights.now (edges_data c.args.ordered.now) c.loop-at.at _ c.loop-at.seen is (omega (arith, low)) c.in_default.not-Some c.loop-at.invariant.1)

pub returns-clause-none : goal.returns-clause-none
returns-clause-none c = λ i j order early inside agree.
    let size = length-map c.args.ordered.now (edge_data (λ name. name)) in
    none_agree c.args.n c.args.weights.now (edges_data c.args.ordered.now) c.loop-at.at c.loop-at.seen c.loop-at.invariant.1 i j order (omega (arith, early, inside, size)) agree

use Rattle.std.proofs.Common.{◌≡◌, ℕ, ◌<◌, [], ◌∷◌, length, replicate, false, refl, ap, sym, ◌∙◌, subst, arith, rules}
use Rattle.least_walks.specs.declared.breadth_first.Found.{Found}
use Rattle.least_walks.specs.Graph.{Graph}
use Rattle.least_walks.specs.LeastWalk.{IsGoal, IsLeastWalk}
use Rattle.least_walks.specs.inside.Found.{Searched, IsChain, node_at, walk_to}
use Rattle.least_walks.proofs.Indexing.{node_is, goal_is, written_back}
use Rattle.least_walks.proofs.Begins.{begun}
use Rattle.least_walks.proofs.Ends.{least_at, none_at}
use Rattle.least_walks.proofs.breadth_first.least_walk.Goals as goal

pub loop-at-init : goal.loop-at-init
loop-at-init g c =
    let table : Graph = g.G.ImplicitGraph.graph c.args.graph.now in
    let start : ℕ = c.args.start in
    let e : Found = record { node = start; from = 0; label = 0 } in
    let marks : c.in_ok-marks.marks.items ≡ replicate (table.nodes) false =
    c.in_ok-marks.ensures.items_if_clones_equal (λ y h. h) ∙ ap (λ n. replicate n false) c.node_count.ensures.count in
    let given : c.deref_mut.result.now ≡ replicate (table.nodes) false = c.deref_mut.ensures.value ∙ marks in
    let found : c.push.new.self.items ≡ e ∷ [] = search rules in
    let begun_here : Searched table start c.push.new.self.items c.deref_mut.result.now 0 =
    subst (λ f. Searched table start f c.deref_mut.result.now 0) (sym found)
    (subst (λ m. Searched table start (e ∷ []) m 0) (sym given) (begun table start table.nodes c.requires.start refl)) in
    let first : Searched table start c.take_arcs.new.found.items c.take_arcs.new.marks 1 =
    c.in_ok-take_arcs.ensures.searched start begun_here in
    let long : length c.take_arcs.new.marks ≡ c.in_ok-marks.marks.len = omega arith in
    let back = written_back c.in_ok-marks.marks.len c.take_arcs.new.marks c.in_ok-marks.marks.items long in
    record {
      sized = ap length back ∙ first.known.sized;
      searched = subst (λ m. Searched table start c.take_arcs.new.found.items m 1) (sym back) first;
      begun = omega arith;
      tested = λ i pos less. absurd (omega (arith, pos, less));
    }

pub returns-then-goals-index-clause-least : goal.returns-then-goals-index-clause-least
returns-then-goals-index-clause-least g c =
    let table : Graph = g.G.ImplicitGraph.graph c.args.graph.now in
    let searched = c.loop-at.invariant.searched in
    let here : c.loop-at.at < length c.loop-at.found.items = omega arith in
    let node : c.index.result.now.node ≡ node_at c.loop-at.found.items c.loop-at.at =
    node_is c.loop-at.found.items c.loop-at.at c.index.result.now here c.index.ensures in
    let goal_here : IsGoal c.args.goals.now (node_at c.loop-at.found.items c.loop-at.at) =
    goal_is c.args.goals.now c.index.result.now.node (node_at c.loop-at.found.items c.loop-at.at) _
    (omega (arith, node, searched.known.inside c.loop-at.at here, c.requires.goals)) node c.if-goals-index.true in
    let word : c.in_ok-labels_to.field-0.items ≡ walk_to searched.walks c.loop-at.at =
    c.in_ok-labels_to.ensures.walk searched.walks (subst (λ f. IsChain f searched.walks) (sym c.deref.ensures.value) searched.known.chain) in
    subst (λ w. IsLeastWalk table c.args.goals.now c.args.start w) (sym word)
    (least_at table c.args.goals.now c.args.start c.loop-at.found.items c.loop-at.marks.items
    c.loop-at.at searched c.loop-at.invariant.begun here (λ i pos less. (c.loop-at.invariant.tested i pos less).1) goal_here)

pub returns-clause-none : goal.returns-clause-none
returns-clause-none g c =
    none_at (g.G.ImplicitGraph.graph c.args.graph.now) c.args.goals.now c.args.start c.loop-at.found.items c.loop-at.marks.items
    c.loop-at.at c.loop-at.invariant.searched c.loop-at.invariant.begun (omega arith) (λ i pos less. (c.loop-at.invariant.tested i pos less).1)

-- `new` owns no node.
use Rattle.edge_store.proofs.Memory.Walk.{nodes_made, nodes_val, leaves, proved, ftrue, flft, emp, fact, fact_i, tables, layouts, param, RattleType, Ptr, block_ptr, nothing, walk_of, [], ◌∷◌, refl, ◌≡◌, inst_fn, a_type, alloc_all, free_all, get, look_at, pass_all, sets, !, by, keep, move, qed, raw, split, use0, ‵, ◌$◌, ◌∵◌, ◌⊛◌, agg, addr, and_then, enter, from, no_more, of_opd, returns, stop}
use Rattle.edge_store.specs.contracts.nodes.Nodes as Nodes
use Rattle.edge_store.specs.contracts.nodes.Nodes.new as f
use Rattle.edge_store.specs.contracts.nodes.Nodes.new.Key.{name as #self}
use Rattle.edge_store.proofs.nodes.Nodes.new.Statement.{statement}
use Rattle.edge_store.proofs.nodes.Nodes.new.Code as code

pub new_spec : {M : Type 1} → statement M
new_spec 𝓤 𝓛 𝓜 𝓡 wired X L =
    let R : RattleType = param 0 X in
    let Row : RattleType = Nodes.the_row R in
    let En = f.ended X in
    let c = f.clauses X 𝓛 𝓜.mem 𝓡.returns in
    let inst = layouts (a_type ∷ []) (X, tt) in
    let fn = inst_fn inst code.function in
    let 𝓣 = tables 𝓤 𝓛.H 𝓜 𝓡 𝓡.env in
    proved 𝓛 En tt c 𝓜 𝓡 tt (#self inst) fn (code.unfolded 𝓤 𝓛.H 𝓜 𝓡 wired (X, tt)) (λ κs. tt) (λ κs. tt) (λ κs qs bounds a g are.
    let y : (walk_of 𝓛 En tt c).Ghost = ((κs, qs, bounds, a, tt), g) in
    let Post = (walk_of 𝓛 En tt c).post y in
    qed 𝓛 (((‵ (flft κs.0 qs.0) ⊛ ‵ ftrue) ⊛ ‵ ftrue) ∷ raw ((c κs a).requires g) ∷ []) ∵
    split ! $ enter ! 𝓣.C 𝓣.Λ fn [] Post $ alloc_all ! (λ m. pass_all ! refl tt $
    let p : Ptr = block_ptr (m 1) 0 in
    let none : Row.Denot = record { head = p; tail = p; links = []; items = []; paired = refl; chained = ∣ (tt, tt) ∣₁ } in
    -- [the token of T; nothing]
    sets ! (agg ! (no_more !)) refl (tt, tt) $ sets ! (addr ! (from ! (stop !))) refl (tt, tt) $ sets ! (of_opd ! (get ! refl)) refl (tt, tt) $
    sets ! (agg ! (and_then ! (get ! refl) (and_then ! (get ! refl) (no_more !)))) refl (tt, (tt, (tt, tt))) $
    move ! (1 ∷ []) $ nodes_made R ! none $ returns ! (look_at ! 0 refl) $ free_all ! refl $
    nothing ! $ use0 𝓛 (raw (fact 𝓤 (none.items ≡ []))) (fact_i 𝓤 _ (emp 𝓤) refl) $ keep ! (3 ∷ 1 ∷ 2 ∷ 0 ∷ []) $ by ! (leaves 𝓛 En tt c y (nodes_val p p) none tt tt)))

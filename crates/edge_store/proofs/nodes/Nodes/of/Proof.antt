-- `of` makes a node in its box the only one.
use mir.Syntax.{impl, tnil}
use Rattle.edge_store.proofs.Memory.Walk.{nodes_made, nodes_val, node_owns, Goes-blank, leaves, proved_at, ftrue, flft, fsep, SProp, emp, ent, id⊢, fact, fact_i, tables, no, layouts, param, param_laws, RattleType, Ptr, block_ptr, plain, nothing, Stays, stay_dropped, walk_of, List, [], ◌++◌, ◌∷◌, refl, subst, sym, ◌≡◌, inst_fn, a_type, dnil, Val, WpFn, alloc_all, free_all, get, get_in, look_at, pass_all, sets, !, by, fjoin, fsplit, keep, move, qed, raw, split, suffices, use0, use1, ‵, ◌$◌, ◌∵◌, ◌⊛◌, agg, sub, whole, and_then, enter, fld, no_more, of_opd, returns, stop}
use Rattle.std.specs.contracts.alloc.Global as Heap
use Rattle.std.proofs.alloc.Global.TheLaws as heap
use Rattle.std.specs.contracts.impls.GlobalAllocator.TheImpl.{dict, ghosts}
use Rattle.std.proofs.BoxSteps.Form as box
use Rattle.std.proofs.BoxSteps.Steps.{box_out}
use Rattle.edge_store.specs.contracts.node.Node as Node
use Rattle.edge_store.specs.contracts.raw_box.RawBox as RawBox
use Rattle.edge_store.proofs.node.Node.TheLaws as node
use Rattle.edge_store.specs.contracts.nodes.Nodes as Nodes
use Rattle.edge_store.specs.contracts.nodes.Nodes.of as f
use Rattle.edge_store.specs.contracts.nodes.Nodes.of.Key.{name as #self}
use Rattle.edge_store.proofs.nodes.Nodes.of.Statement.{statement}
use Rattle.edge_store.proofs.nodes.Nodes.of.Code as code

pub of_spec : {M : Type 1} → statement M
of_spec 𝓤 𝓛 𝓜 𝓡 wired X L =
    let R : RattleType = param 0 X in
    let Row : RattleType = Nodes.the_row R in
    let En = f.ended X in
    let c = f.clauses X 𝓛 𝓜.mem 𝓡.returns in
    let inst = layouts (a_type ∷ []) (X, tt) in
    let fn = inst_fn inst code.function in
    let 𝓣 = tables 𝓤 𝓛.H 𝓜 𝓡 𝓡.env in
    let LR = param_laws 0 X L in
    let N : RattleType = Node.the_row R in
    let E : box.Bx = record { row = N; laws = node.the_row_laws R LR; al = record { row = Heap.the_row; laws = heap.the_row_laws; g = ghosts; d = dict; drops = impl [] tnil dnil } } in
    let B : RattleType = box.B E in
    let Raw : RattleType = RawBox.the_row N Heap.the_row ghosts in
    let hs : Stays En.signature.params En.kept = (stay_dropped (plain (λ _. Raw)) no, tt) in
    proved_at 𝓛 En hs c 𝓜 𝓡 (Goes-blank 𝓛 1 (plain (λ _. Raw)) no (λ κs x f. tt), tt) (#self inst) fn (code.unfolded 𝓤 𝓛.H 𝓜 𝓡 wired (X, tt)) (λ z are.
    let κs = z.0.0 in
    let qs = z.0.1 in
    let r : Raw.Denot = z.0.3.0 in
    let v : box.D E = record { ptr = r.ptr; alloc = r.alloc; value = r.value } in
    let n : Ptr = v.value.next.ptr in
    let x : X.Denot = v.value.item in
    let Post : Val → SProp 𝓤 = (walk_of 𝓛 En hs c).post z in
    let Run : List Val → SProp 𝓤 = λ ws. WpFn 𝓤 𝓛.H 𝓣.C 𝓣.Λ fn ws Post in
    qed 𝓛 (((‵ (flft κs.0 qs.0) ⊛ ‵ ftrue) ⊛ ‵ (fsep (B.own_val v z.0.4.0) ftrue)) ∷ raw ((c κs z.0.3).requires z.1) ∷ []) ∵ split ! $ move ! (1 ∷ []) $ fsplit ! $
    box_out E ! v z.0.4.0 (λ b o h e ws fits.
    let p : Ptr = block_ptr b o in
    let w : Val = box.word E h b o in
    let made : Row.Denot = record { head = p; tail = p; links = (p, n) ∷ []; items = x ∷ []; paired = refl; chained = ∣ ((refl, tt), refl) ∣₁ } in
    -- [the node with the right to free it; the handle; nothing; the tokens]
    fjoin ! $ use1 𝓛 (‵ (node_owns R (p, n) x)) (id⊢ 𝓤 _) $
    suffices ! (Run (w ∷ [])) (subst (λ (us : List Val). ent 𝓤 (Run (w ∷ [])) (Run us)) (sym (λ i. ws i ++ [])) (id⊢ 𝓤 (Run (w ∷ [])))) $
    enter ! 𝓣.C 𝓣.Λ fn (w ∷ []) Post $ alloc_all ! (λ m. pass_all ! refl (box.box_typed E h b o fits, tt) $
    sets ! (of_opd ! (get_in ! (fld ! refl (stop !)) (sub ! 0 refl (whole !)))) refl (tt, tt) $ sets ! (agg ! (and_then ! (get ! refl) (and_then ! (get ! refl) (no_more !)))) refl (tt, (tt, (tt, tt))) $
    nothing ! $ move ! (1 ∷ 0 ∷ []) $ fjoin ! $ nodes_made R ! made $ returns ! (look_at ! 0 refl) $ free_all ! refl $
    use0 𝓛 (raw (fact 𝓤 (x ∷ [] ≡ x ∷ []))) (fact_i 𝓤 _ (emp 𝓤) refl) $ nothing ! $ nothing ! $ fjoin ! $ keep ! (5 ∷ 0 ∷ 2 ∷ 1 ∷ []) $ by ! (leaves 𝓛 En hs c z (nodes_val p p) made (tt, tt) (tt, tt)))))

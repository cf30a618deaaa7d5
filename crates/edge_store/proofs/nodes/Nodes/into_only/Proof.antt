-- `into_only` makes the only node a box again.
use mir.Syntax.{impl, tnil}
use Rattle.edge_store.proofs.Memory.Walk.{yes, IsChained-had, only_of, Frees, nodes_good, nodes_had, nodes_val, IsChained, Link, node_at, node_owns, nodes_own, handle_tells, leaves, proved_at, ftrue, flft, SProp, emp, ent, fst∗, id⊢, never, ◌⊑◌, fact, fact_i, tables, no, layouts, param, param_laws, RattleType, owns, Ptr, block_ptr, in_a_block, null_ptr, ptr_val, plain, types_at, heard, nothing, Goes-dropped, Stays, stay_dropped, walk_of, length, List, [], ◌++◌, ◌∷◌, ap, refl, subst, sym, ◌∙◌, ◌≡◌, inst_fn, a_type, dnil, Val, WpFn, alloc_all, free_all, get, get_in, is, look_at, pass_all, sets, !, by, fjoin, fsplit, fsplit3, keep, move, qed, raw, rewrite, split, suffices, use0, use1, ‵, ◌$◌, ◌∵◌, ◌⊛◌, sem, agg, sub, whole, and_then, enter, fld, no_more, of_opd, returns, stop}
use Rattle.std.specs.contracts.alloc.Global as Heap
use Rattle.std.proofs.alloc.Global.TheLaws as heap
use Rattle.std.specs.contracts.impls.GlobalAllocator.TheImpl.{dict, ghosts}
use Rattle.std.proofs.BoxSteps.Form as box
use Rattle.std.proofs.BoxSteps.Steps.{box_in}
use Rattle.edge_store.specs.contracts.node.Node as Node
use Rattle.edge_store.specs.contracts.raw_box.RawBox as RawBox
use Rattle.edge_store.proofs.node.Node.TheLaws as node
use Rattle.edge_store.specs.contracts.nodes.Nodes as Nodes
use Rattle.edge_store.specs.contracts.nodes.Nodes.into_only as f
use Rattle.edge_store.specs.contracts.nodes.Nodes.into_only.Key.{name as #self}
use Rattle.edge_store.proofs.nodes.Nodes.into_only.Statement.{statement}
use Rattle.edge_store.proofs.nodes.Nodes.into_only.Code as code

pub into_only_spec : {M : Type 1} → statement M
into_only_spec 𝓤 𝓛 𝓜 𝓡 wired X L =
    let R : RattleType = param 0 X in
    let Row : RattleType = Nodes.the_row R in
    let En = f.ended X in
    let c = f.clauses X 𝓛 𝓜.mem 𝓡.returns in
    let inst = layouts (a_type ∷ []) (X, tt) in
    let fn = inst_fn inst code.function in
    let 𝓣 = tables 𝓤 𝓛.H 𝓜 𝓡 𝓡.env in
    let LR = param_laws 0 X L in
    let N : RattleType = Node.the_row R in
    let E : box.Bx = record { row = N; laws = node.the_row_laws R LR; al = record { row = Heap.the_row; laws = heap.the_row_laws; g = ghosts; d = dict; drops = impl [] tnil dnil } } in
    let B : RattleType = box.B E in
    let Raw : RattleType = RawBox.the_row N Heap.the_row ghosts in
    let hs : Stays En.signature.params En.kept = (stay_dropped (plain (λ _. Row)) no, (stay_dropped (plain (λ _. Heap.the_row)) yes, tt)) in
    proved_at 𝓛 En hs c 𝓜 𝓡 (Goes-dropped 𝓛 1 (plain (λ _. Row)) no (λ κs x w. refl), (Goes-dropped 𝓛 1 (plain (λ _. Heap.the_row)) yes (λ κs x w. refl), tt)) (#self inst) fn (code.unfolded 𝓤 𝓛.H 𝓜 𝓡 wired (X, tt)) (λ z are.
    let κs = z.0.0 in
    let qs = z.0.1 in
    let d : Row.Denot = z.0.3.0 in
    let a = z.0.3.1.0 in
    let Post : Val → SProp 𝓤 = (walk_of 𝓛 En hs c).post z in
    let Run : List Val → SProp 𝓤 = λ ws. WpFn 𝓤 𝓛.H 𝓣.C 𝓣.Λ fn ws Post in
    qed 𝓛 (((‵ (flft κs.0 qs.0) ⊛ ‵ ftrue) ⊛ ‵ (owns (types_at En.signature.params κs) z.0.3 z.0.4)) ∷ raw (fact 𝓤 (κs.0 ⊑ X.lives)) ∷ raw (fact 𝓤 (length d.items ≡ 1)) ∷ []) ∵
    move ! (2 ∷ []) $ heard ! (length d.items ≡ 1) (λ one.
    let had = only_of d.links d.items d.paired one in
    let l : Link = had.0 in
    let x : X.Denot = had.1 in
    let linked : IsChained d.head d.tail (l ∷ []) = subst (IsChained d.head d.tail) had.2 (IsChained-had _ _ _ d.chained) in
    split ! $ move ! (1 ∷ []) $ fsplit3 ! $ nodes_had R ! d z.0.4.0 (λ ws. rewrite ! 0 (λ (ks : List Link). ‵ (nodes_own R ks d.items)) had.2 refl $ rewrite ! 0 (λ (zs : List X.Denot). ‵ (nodes_own R (l ∷ []) zs)) had.3 refl $
    move ! (1 ∷ []) $ handle_tells E.al ! a z.0.4.1.0 (λ h us fits. move ! (1 ∷ []) $ fsplit ! $
    in_a_block ! l.0 (λ p. node_owns R (p, l.1) x) (fst∗ 𝓤 (never 𝓤) (sem 𝓛 (Frees R null_ptr))) (λ b o at.
    let p : Ptr = block_ptr b o in
    let v : box.D E = record { ptr = p; alloc = a; value = node_at (p, l.1) x } in
    let r : Raw.Denot = record { ptr = p; alloc = a; value = node_at (p, l.1) x } in
    let w : Val = box.word E h b o in
    let vs : List Val = nodes_val d.head d.tail ∷ h ∷ [] in
    suffices ! (Run vs) (subst (λ (qs' : List Val × List Val). ent 𝓤 (Run vs) (Run (qs'.0 ++ (qs'.1 ++ [])))) (λ i. (sym ws i, sym us i)) (id⊢ 𝓤 (Run vs))) $
    -- [the node with the right to free it; nothing; the handle; nothing; the tokens]
    enter ! 𝓣.C 𝓣.Λ fn vs Post $ alloc_all ! (λ m. pass_all ! refl (nodes_good d.head d.tail, (fits, tt)) $
    sets ! (is ! (of_opd ! (get_in ! (fld ! refl (stop !)) (sub ! 0 refl (whole !)))) (ap ptr_val (linked.0.0 ∙ at))) refl (tt, tt) $ sets ! (agg ! (and_then ! (get ! refl) (and_then ! (get ! refl) (no_more !)))) refl (box.box_typed E h b o fits) $
    fsplit ! $ move ! (0 ∷ 1 ∷ 3 ∷ []) $ box_in E ! v b o (node_at (p, l.1) x) refl refl $ use1 𝓛 (‵ (Raw.own_val r (w ∷ []))) (id⊢ 𝓤 _) $ returns ! (look_at ! 0 refl) $ free_all ! refl $
    use0 𝓛 (raw (fact 𝓤 (d.items ≡ x ∷ []))) (fact_i 𝓤 _ (emp 𝓤) had.3) $ nothing ! $ nothing ! $ fjoin ! $ nothing ! $ fjoin ! $ keep ! (5 ∷ 0 ∷ 2 ∷ 1 ∷ []) $ by ! (leaves 𝓛 En hs c z w r (tt, (tt, tt)) (tt, (tt, tt)))))))))

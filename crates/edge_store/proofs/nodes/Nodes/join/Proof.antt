-- `join` leads the last node of one chain to the first of the other.
use Rattle.edge_store.proofs.Memory.Walk.{Goes-dropped, Goes-ref, IsChained, IsChained-had, IsChained-join, IsChained-last, Link, Ptr, Ptr-Good, RattleType, Stays, Val, a_type, after, alloc_all, ap, apart, assigns, assigns_last, at_ret, block_ptr, blocks, by, cell_at, emp, enter, env, exec, fact, fact_i, feq_i, first, first_of, fjoin, fjoin3, fld, flft, free_all, fsplit, full_share, fsplit3, ftrue, get, get_in, heard, hop, inst_fn, join, keep, last_of, layouts, leaves, length, look_at, look_in, move, mut_Tells, mut_vals, named, no, node_closes, node_opens, nodes_closes, nodes_good, nodes_had, nodes_opens, nodes_own, nodes_val, nothing, of_opd, owns, param, param_laws, pass_all, plain, proved, qed, raw, refl, returns, rewrite, sets, split, stay_dropped, stay_ref, stop, store_in, sub, subst, sym, tables, through, together, types_at, unit_lit, use0, use1, use2, vptr, vunit, walk_of, whole, [], List, arith, ◌$◌, ◌++◌, ◌∙◌, ◌∵◌, ◌∷◌, ◌≡◌, ◌≢◌, ◌⊑◌, ◌⊛◌, ‵, ! }
use lib.ListN.{length-append}
use Rattle.edge_store.specs.contracts.nodes.Nodes as Nodes
use Rattle.edge_store.specs.contracts.nodes.Nodes.join as f
use Rattle.edge_store.specs.contracts.nodes.Nodes.join.Key.{name as #self}
use Rattle.edge_store.proofs.nodes.Nodes.TheLaws as nodes
use Rattle.edge_store.proofs.nodes.Nodes.join.Statement.{statement}
use Rattle.edge_store.proofs.nodes.Nodes.join.Code as code

pub join_spec : {M : Type 1} → statement M
join_spec 𝓤 𝓛 𝓜 𝓡 wired X L =
    let R : RattleType = param 0 X in
    let Row : RattleType = Nodes.the_row R in
    let En = f.ended X in
    let c = f.clauses X 𝓛 𝓜.mem 𝓡.returns in
    let inst = layouts (a_type ∷ []) (X, tt) in
    let fn = inst_fn inst code.function in
    let 𝓣 = tables 𝓤 𝓛.H 𝓜 𝓡 𝓡.env in
    let self = plain (λ _. Row) in
    let laws = nodes.lowers R (param_laws 0 X L) in
    let hs : Stays En.signature.params En.kept = (stay_ref (0 ∷ []) tt self, (stay_dropped self no, tt)) in
    proved 𝓛 En hs c 𝓜 𝓡 (Goes-ref 𝓛 2 0 tt self, (Goes-dropped 𝓛 2 self no (λ κs x w. refl), tt)) (#self inst) fn (code.unfolded 𝓤 𝓛.H 𝓜 𝓡 wired (X, tt))
    (λ κs. (mut_vals, ((λ e. laws.lowered e ∷ []), tt))) (λ κs. (mut_Tells (named 0) κs.0 Row, (laws.val_is, tt))) (λ κs qs bounds a g are.
    let b = a.0.ref_ptr.0 in
    let o = a.0.ref_ptr.1 in
    let d : Row.Denot = a.0.now in
    let e : Row.Denot = a.1.0 in
    let Asked : Type 0 = (d.items ≢ []) × (e.items ≢ []) in
    let y : (walk_of 𝓛 En hs c).Ghost = ((κs, qs, bounds, a, (vptr b o ∷ [], (nodes_val e.head e.tail ∷ [], tt))), g) in
    let Post = (walk_of 𝓛 En hs c).post y in
    qed 𝓛 (((‵ (flft κs.0 qs.0) ⊛ ‵ (flft κs.1.0 qs.1.0) ⊛ ‵ ftrue) ⊛ ‵ (owns (types_at En.signature.params κs) a y.0.4)) ∷ raw (fact 𝓤 (κs.1.0 ⊑ X.lives)) ∷ raw (fact 𝓤 Asked) ∷ []) ∵
    move ! (2 ∷ []) $ heard ! Asked (λ asked.
    let last = last_of d.links d.items d.paired asked.0 in
    let l : Link = last.link in
    let x : X.Denot = last.item in
    let linked : IsChained d.head d.tail (last.links ++ l ∷ []) = subst (IsChained d.head d.tail) last.links-are (IsChained-had _ _ _ d.chained) in
    let behind = first_of e.links e.items e.paired asked.1 in
    let tied : IsChained e.head e.tail (behind.link ∷ behind.links) = subst (IsChained e.head e.tail) behind.links-are (IsChained-had _ _ _ e.chained) in
    -- [the token of self; the token of T; what is owned; the lifetime's bound]
    split ! $ split ! $ move ! (2 ∷ []) $ fsplit3 ! $ move ! (1 ∷ []) $ nodes_had R ! e (nodes_val e.head e.tail ∷ []) (λ _. move ! (1 ∷ []) $ fsplit3 ! $
    -- [the place of self; obs; the borrow; the other nodes; nothing; the tokens]
    keep ! (1 ∷ 2 ∷ 5 ∷ 3 ∷ 6 ∷ []) $
    enter ! 𝓣.C 𝓣.Λ fn (vptr b o ∷ nodes_val e.head e.tail ∷ []) Post $ alloc_all ! (λ m. pass_all ! refl ((tt, tt), (nodes_good e.head e.tail, tt)) $ let Ev = env fn.locals m in
    nodes_opens R ! tt d b o $ rewrite ! 0 (λ (ks : List Link). ‵ (nodes_own R ks d.items)) last.links-are refl $ rewrite ! 0 (λ (zs : List X.Denot). ‵ (nodes_own R (last.links ++ l ∷ []) zs)) last.items-are refl $
    use1 𝓛 (‵ (nodes_own R last.links last.items) ⊛ ‵ (nodes_own R (l ∷ []) (x ∷ []))) (apart R 𝓛 last.links (l ∷ []) last.items (x ∷ []) last.paired) $ split ! $ move ! (1 ∷ []) $ fsplit ! $
    node_opens X L ! l x (λ b' o' v at fits.
    let p : Ptr = block_ptr b' o' in
    let front = last.links ++ (p, e.head) ∷ [] in
    let zs = last.items ++ x ∷ [] in
    let same : length front ≡ length zs = let ls = length-append last.links ((p, e.head) ∷ []) in let xs = length-append last.items (x ∷ []) in let ps = last.paired in omega arith in
    let before : IsChained d.head d.tail (last.links ++ (p, l.1) ∷ []) = subst (λ q. IsChained d.head d.tail (last.links ++ (q, l.1) ∷ [])) at linked in
    let new : Row.Denot = record {
      head = d.head;
      tail = e.tail;
      links = front ++ e.links;
      items = zs ++ e.items;
      paired = let ls = length-append front e.links in let xs = length-append zs e.items in let ps = e.paired in omega arith;
      chained = ∣ subst (λ ms. IsChained d.head e.tail (front ++ ms)) (sym behind.links-are) (IsChained-join d.head d.tail e.head e.tail last.links (p, l.1) behind.link behind.links before tied) ∣₁;
    } in
    -- [the last node, in three; nothing; those before it; the two places; the open borrow; obs; auth; the other nodes; the token of T]
    rewrite ! 5 (λ (t : Ptr). ‵ (cell_at full_share Row.mir (nodes_val d.head t ∷ []) b o)) (IsChained-last d.head d.tail last.links l linked ∙ at) refl $
    sets ! (of_opd ! (get_in ! (fld ! refl (stop !)) (sub ! 0 refl (whole !)))) refl (Ptr-Good e.head) $ sets ! (of_opd ! (get_in ! (fld ! refl (stop !)) (sub ! 1 refl (whole !)))) refl (Ptr-Good e.tail) $
    first ! $ blocks ! $ assigns_last ! (of_opd ! (get ! refl)) (through ! refl (fld ! refl (hop ! (look_in ! 5 (sub ! 1 refl (whole !))) (fld ! refl (fld ! refl (stop !)))))) (store_in ! 0 (sub ! 0 refl (sub ! 0 refl (whole !))) (Ptr-Good e.head)) $
    exec ! 𝓣.C 𝓣.Λ Ev (after 3 fn.body) (at_ret Ev Post) $
    assigns ! (of_opd ! (get ! refl)) (through ! refl (fld ! refl (stop !))) (store_in ! 5 (sub ! 1 refl (whole !)) (Ptr-Good e.tail)) $ sets ! (of_opd ! (unit_lit !)) refl (tt, tt) $
    node_closes X L ! b' o' e.head v x $ fjoin ! $ move ! (1 ∷ 0 ∷ []) $ use2 𝓛 (‵ (nodes_own R front zs)) (together R 𝓛 last.links ((p, e.head) ∷ []) last.items (x ∷ []) last.paired) $
    move ! (0 ∷ 5 ∷ []) $ use2 𝓛 (‵ (nodes_own R (front ++ e.links) (zs ++ e.items))) (together R 𝓛 front e.links zs e.items same) $
    nodes_closes R ! tt new b o $ returns ! (look_at ! 0 refl) $ free_all ! refl $
    -- [obs; the borrow; the token of self; the token of T]
    feq_i ! (List Val) (vptr b o ∷ []) (vptr b o ∷ []) refl $ fjoin3 ! $ nothing ! $ nothing ! $ fjoin ! $ move ! (1 ∷ 0 ∷ []) $ fjoin ! $ move ! (1 ∷ 2 ∷ []) $ join ! $
    feq_i ! (List Val) (vunit ∷ []) (vunit ∷ []) refl $ use0 𝓛 (raw (fact 𝓤 (zs ++ e.items ≡ d.items ++ e.items))) (fact_i 𝓤 _ (emp 𝓤) (ap (λ ws. ws ++ e.items) (sym last.items-are))) $
    keep ! (2 ∷ 3 ∷ 1 ∷ 0 ∷ []) $ by ! (leaves 𝓛 En hs c y vunit tt (new, (tt, tt)) (tt, (tt, tt))))))))

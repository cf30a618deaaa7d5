-- `take_first` makes the first node a chain of its own.
use Rattle.edge_store.proofs.Memory.Walk.{Goes-ref, IsChained, IsChained-had, IsChained-tail, Link, Ptr, Ptr-Good, RattleType, Stays, Val, a_type, after, agg, alloc_all, and_then, ap, assigns, at_ret, block_ptr, blocks, by, emp, enter, env, exec, fact, fact_i, feq_i, first, first_of, fjoin, fjoin3, fld, flft, free_all, fsplit, fsplit3, ftrue, get, heard, inst_fn, is, join, keep, layouts, leaves, load, look_at, look_in, move, mut_Tells, mut_vals, named, no_more, node_closes, node_opens, nodes_closes, nodes_made, nodes_opens, nodes_own, nodes_val, nothing, of_opd, owns, param, pass_all, plain, proved, ptr_val, qed, raw, refl, returns, rewrite, sets, sets_last, split, stay_ref, stop, store_in, sub, subst, sym, tables, take, through, types_at, use0, vptr, walk_of, whole, [], List, ◌$◌, ◌∙◌, ◌∵◌, ◌∷◌, ◌≡◌, ◌≢◌, ◌⊑◌, ◌⊛◌, ‵, ! }
use lib.ListN.{drop as dropped}
use Rattle.edge_store.specs.contracts.nodes.Nodes as Nodes
use Rattle.edge_store.specs.contracts.nodes.Nodes.take_first as f
use Rattle.edge_store.specs.contracts.nodes.Nodes.take_first.Key.{name as #self}
use Rattle.edge_store.proofs.nodes.Nodes.take_first.Statement.{statement}
use Rattle.edge_store.proofs.nodes.Nodes.take_first.Code as code

pub take_first_spec : {M : Type 1} → statement M
take_first_spec 𝓤 𝓛 𝓜 𝓡 wired X L =
    let R : RattleType = param 0 X in
    let Row : RattleType = Nodes.the_row R in
    let En = f.ended X in
    let c = f.clauses X 𝓛 𝓜.mem 𝓡.returns in
    let inst = layouts (a_type ∷ []) (X, tt) in
    let fn = inst_fn inst code.function in
    let 𝓣 = tables 𝓤 𝓛.H 𝓜 𝓡 𝓡.env in
    let self = plain (λ _. Row) in
    let hs : Stays En.signature.params En.kept = (stay_ref (0 ∷ []) tt self, tt) in
    proved 𝓛 En hs c 𝓜 𝓡 (Goes-ref 𝓛 2 0 tt self, tt) (#self inst) fn (code.unfolded 𝓤 𝓛.H 𝓜 𝓡 wired (X, tt))
    (λ κs. (mut_vals, tt)) (λ κs. (mut_Tells (named 0) κs.0 Row, tt)) (λ κs qs bounds a g are.
    let b = a.0.ref_ptr.0 in
    let o = a.0.ref_ptr.1 in
    let d : Row.Denot = a.0.now in
    let y : (walk_of 𝓛 En hs c).Ghost = ((κs, qs, bounds, a, (vptr b o ∷ [], tt)), g) in
    qed 𝓛 (((‵ (flft κs.0 qs.0) ⊛ ‵ (flft κs.1.0 qs.1.0) ⊛ ‵ ftrue) ⊛ ‵ (owns (types_at En.signature.params κs) a y.0.4)) ∷ raw (fact 𝓤 (κs.1.0 ⊑ X.lives)) ∷ raw (fact 𝓤 _) ∷ []) ∵
    move ! (2 ∷ []) $ heard ! (d.items ≢ []) (λ some.
    let had = first_of d.links d.items d.paired some in
    let l : Link = had.link in
    let x : X.Denot = had.item in
    let linked : IsChained d.head d.tail (l ∷ had.links) = subst (IsChained d.head d.tail) had.links-are (IsChained-had _ _ _ d.chained) in
    let good = Ptr-Good l.1 in
    let rest : Row.Denot = record { head = l.1; tail = d.tail; links = had.links; items = had.items; paired = had.paired; chained = ∣ IsChained-tail d.head d.tail l had.links linked ∣₁ } in
    let Post = (walk_of 𝓛 En hs c).post y in
    split ! $ split ! $ move ! (2 ∷ []) $ fsplit ! $ fsplit3 ! $ keep ! (1 ∷ 2 ∷ 4 ∷ 5 ∷ []) $
    enter ! 𝓣.C 𝓣.Λ fn (vptr b o ∷ []) Post $ alloc_all ! (λ m. pass_all ! refl ((tt, tt), tt) $ let Ev = env fn.locals m in
    nodes_opens R ! tt d b o $ rewrite ! 0 (λ (ks : List Link). ‵ (nodes_own R ks d.items)) had.links-are refl $ rewrite ! 0 (λ (zs : List X.Denot). ‵ (nodes_own R (l ∷ had.links) zs)) had.items-are refl $
    fsplit ! $ node_opens X L ! l x (λ b' o' v at fits. let p : Ptr = block_ptr b' o' in
    let alone : Row.Denot = record { head = p; tail = p; links = (p, l.1) ∷ []; items = x ∷ []; paired = refl; chained = ∣ ((refl, tt), refl) ∣₁ } in
    -- [the first node, in three; the others; the two places; the open borrow; obs; auth; the token of T]
    sets ! (is ! (of_opd ! (load ! (through ! refl (fld ! refl (stop !))) (look_in ! 4 (sub ! 0 refl (whole !))))) (ap ptr_val (linked.0.0 ∙ at))) refl (tt, tt) $
    first ! $ blocks ! $ sets_last ! (of_opd ! (load ! (through ! refl (fld ! refl (fld ! refl (stop !)))) (look_in ! 0 (sub ! 0 refl (sub ! 0 refl (whole !)))))) refl good $
    exec ! 𝓣.C 𝓣.Λ Ev (after 2 fn.body) (at_ret Ev Post) $
    assigns ! (of_opd ! (get ! refl)) (through ! refl (fld ! refl (stop !))) (store_in ! 4 (sub ! 0 refl (whole !)) good) $
    sets ! (agg ! (and_then ! (get ! refl) (and_then ! (get ! refl) (no_more !)))) refl (tt, (tt, (tt, tt))) $
    node_closes X L ! b' o' l.1 v x $ nothing ! $ move ! (1 ∷ 0 ∷ []) $ fjoin ! $ nodes_made R ! alone $
    move ! (1 ∷ 2 ∷ 3 ∷ 4 ∷ 5 ∷ []) $ nodes_closes R ! tt rest b o $ returns ! (look_at ! 0 refl) $ free_all ! refl $
    -- [obs; the borrow; the token of self; the chain of the first; the token of T]
    feq_i ! (List Val) (vptr b o ∷ []) (vptr b o ∷ []) refl $ fjoin3 ! $ nothing ! $ move ! (1 ∷ 0 ∷ []) $ fjoin ! $ move ! (1 ∷ 3 ∷ []) $ join ! $
    use0 𝓛 (raw (fact 𝓤 (take 1 (x ∷ had.items) ≡ take 1 d.items))) (fact_i 𝓤 _ (emp 𝓤) (sym (ap (take 1) had.items-are))) $
    use0 𝓛 (raw (fact 𝓤 (had.items ≡ dropped 1 d.items))) (fact_i 𝓤 _ (emp 𝓤) (sym (ap (dropped 1) had.items-are))) $ join ! $ keep ! (1 ∷ 2 ∷ 3 ∷ 0 ∷ []) $ by ! (leaves 𝓛 En hs c y (nodes_val p p) alone (rest, tt) (tt, tt))))))

-- `node` lends a node that the chain lends.
use Rattle.edge_store.proofs.Memory.Walk.{no, IsChained-had, link_at, next_is, place_of-is, first_of, node_seen, nodes_seen, place_val, Link, place_of, node_at, after, leaves, proved, ftrue, flft, SProp, emp, ent, fst∗, id⊢, never, ◌⊑◌, fact, fact_i, tables, RefOf, u32, yes, shared_of, layouts, param, param_laws, uint_Tells, uint_vals, RattleType, owns, Ptr, block_ptr, in_a_block, shr_Tells, shr_vals, plain, types_at, hide, lent_at, heard, nothing, Goes-dropped, Stays, stay_dropped, walk_of, get_or, length, List, [], ◌∷◌, ◌≢◌, ap, refl, subst, sym, ◌∙◌, ◌≡◌, inst_fn, a_type, named, w32, Val, vint, vptr, arith, ℕ, suc, ◌+◌, ◌<◌, ◌^◌, WpFn, alloc_all, env, free_all, get, look_at, look_in_at, pass_all, sets, sets_last, !, at_ret, by, drop, feq_i, fjoin, fsplit, fsplit3, join, keep, move, qed, raw, split, suffices, use0, use1, ‵, ◌$◌, ◌∵◌, ◌⊛◌, sem, sub, whole, addr, blocks, enter, exec, first, fld, from, hop, of_opd, returns, stop}
use Rattle.std.proofs.lemmas.List.{get_or_default}
use Rattle.edge_store.specs.contracts.node.Node as Node
use Rattle.edge_store.specs.contracts.node.Place as Place
use Rattle.edge_store.specs.contracts.nodes.Nodes as Nodes
use Rattle.edge_store.specs.contracts.nodes.Nodes.node as f
use Rattle.edge_store.specs.contracts.nodes.Nodes.node.Key.{name as #self}
use Rattle.edge_store.proofs.node.Place.TheLaws as place
use Rattle.edge_store.proofs.nodes.Nodes.node.Statement.{statement}
use Rattle.edge_store.proofs.nodes.Nodes.node.Code as code

pub node_spec : {M : Type 1} → statement M
node_spec 𝓤 𝓛 𝓜 𝓡 wired X L =
    let R : RattleType = param 0 X in
    let N : RattleType = Node.the_row R in
    let Row : RattleType = Nodes.the_row R in
    let En = f.ended X in
    let c = f.clauses X 𝓛 𝓜.mem 𝓡.returns in
    let inst = layouts (a_type ∷ []) (X, tt) in
    let fn = inst_fn inst code.function in
    let 𝓣 = tables 𝓤 𝓛.H 𝓜 𝓡 𝓡.env in
    let self = RefOf (0 ∷ []) tt (plain (λ _. Row)) (λ _. tt) in
    let hs : Stays En.signature.params En.kept = (stay_dropped self yes, (stay_dropped (plain (λ _. Place.the_row R)) no, (stay_dropped (plain (λ _. u32)) yes, tt))) in
    proved 𝓛 En hs c 𝓜 𝓡 (Goes-dropped 𝓛 2 self yes (λ κs x w. refl), (Goes-dropped 𝓛 2 (plain (λ _. Place.the_row R)) no (λ κs x w. refl), (Goes-dropped 𝓛 2 (plain (λ _. u32)) yes (λ κs x w. refl), tt)))
    (#self inst) fn (code.unfolded 𝓤 𝓛.H 𝓜 𝓡 wired (X, tt))
    (λ κs. (shr_vals, ((λ p. place_val p.ptr ∷ []), (uint_vals w32, tt)))) (λ κs. (shr_Tells (named 0) κs.0 Row, ((place.lowers R (param_laws 0 X L)).val_is, (uint_Tells w32, tt)))) (λ κs qs bounds a g are.
    let b = a.0.ref_ptr.0 in
    let o = a.0.ref_ptr.1 in
    let d : Row.Denot = a.0.now in
    let at = a.1.0 in
    let i : ℕ = a.1.1.0 in
    let fits : i < 2 ^ 32 = are.1.1.0.1 in
    let Asked : Type 0 = (i < length d.items) × (at.ptr ≡ place_of d.links i) in
    let y : (walk_of 𝓛 En hs c).Ghost = ((κs, qs, bounds, a, (vptr b o ∷ [], (place_val at.ptr ∷ [], (vint w32 i ∷ [], tt)))), g) in
    let Post : Val → SProp 𝓤 = (walk_of 𝓛 En hs c).post y in
    let Run : Ptr → SProp 𝓤 = λ p. WpFn 𝓤 𝓛.H 𝓣.C 𝓣.Λ fn (vptr b o ∷ place_val p ∷ vint w32 i ∷ []) Post in
    qed 𝓛 (((‵ (flft κs.0 qs.0) ⊛ ‵ (flft κs.1.0 qs.1.0) ⊛ ‵ ftrue) ⊛ ‵ (owns (types_at En.signature.params κs) a y.0.4)) ∷ raw (fact 𝓤 (κs.1.0 ⊑ X.lives)) ∷ raw (fact 𝓤 Asked) ∷ []) ∵
    move ! (2 ∷ []) $ heard ! Asked (λ asked.
    let paired = d.paired in
    let within = asked.0 in
    let some : d.items ≢ [] = λ e. let none = ap length e in omega arith in
    let z : X.Denot = (first_of d.links d.items d.paired some).item in
    let l : Link = link_at d.links i in
    let x : X.Denot = get_or d.items i z in
    let linked = IsChained-had d.head d.tail d.links d.chained in
    let Next : Type 0 = i + 1 < length d.items → l.1 ≡ place_of d.links (i + 1) in
    let next : Next = λ more. let on : suc i ≡ i + 1 = omega arith in next_is d.head d.links i (omega arith) linked.0 ∙ sym (place_of-is d.links (suc i)) ∙ ap (place_of d.links) on in
    split ! $ split ! $ move ! (2 ∷ []) $ fsplit3 ! $ fsplit ! $ keep ! (1 ∷ 4 ∷ 5 ∷ []) $
    -- [the nodes; the token of self; the token of T]
    nodes_seen ! R d b o $ drop ! $ use1 𝓛 (‵ (lent_at N l.0 (node_at l x) κs.0)) (node_seen 𝓛 κs.0 R d.links d.items i z (omega arith) within) $
    in_a_block ! l.0 (λ p. lent_at N p (node_at l x) κs.0) (fst∗ 𝓤 (never 𝓤) (sem 𝓛 (shared_of N (node_at l x) 0 0 κs.0))) (λ b' o' is_there. fsplit ! $ drop ! $ hide ! $
    let p : Ptr = block_ptr b' o' in
    let r : Val = vptr b' o' in
    let here : at.ptr ≡ p = asked.1 ∙ place_of-is d.links i ∙ is_there in
    suffices ! (Run p) (subst (λ s. ent 𝓤 (Run p) (Run s)) (sym here) (id⊢ 𝓤 (Run p))) $
    enter ! 𝓣.C 𝓣.Λ fn (vptr b o ∷ place_val p ∷ vint w32 i ∷ []) Post $ alloc_all ! (λ m. pass_all ! refl ((tt, tt), ((tt, (tt, tt)), ((tt, record { fits = fits }), tt))) $ let Ev = env fn.locals m in
    first ! $ blocks ! $ sets_last ! (addr ! (from ! (fld ! refl (hop ! (look_in_at ! 2 (sub ! 0 refl (whole !))) (stop !))))) refl (tt, tt) $ exec ! 𝓣.C 𝓣.Λ Ev (after 1 fn.body) (at_ret Ev Post) $
    sets ! (of_opd ! (get ! refl)) refl (tt, tt) $ returns ! (look_at ! 0 refl) $ free_all ! refl $
    feq_i ! (List Val) (r ∷ []) (r ∷ []) refl $ fjoin ! $ move ! (1 ∷ 2 ∷ []) $ join ! $ nothing ! $ nothing ! $ fjoin ! $ nothing ! $ fjoin ! $ nothing ! $ fjoin ! $
    use0 𝓛 (raw (fact 𝓤 Next)) (fact_i 𝓤 Next (emp 𝓤) next) $ use0 𝓛 (raw (fact 𝓤 (x ≡ get_or d.items i x))) (fact_i 𝓤 _ (emp 𝓤) (get_or_default d.items i z x within)) $ join ! $
    -- [what is promised; the parameters; the tokens; the `&`]
    keep ! (2 ∷ 1 ∷ 3 ∷ 0 ∷ []) $ by ! (leaves 𝓛 En hs c y r (record { ref_ptr = (b', o'); now = node_at l x }) (tt, (tt, (tt, tt))) (tt, (tt, (tt, tt))))))))

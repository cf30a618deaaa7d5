-- `head` reads through a `&`.
use Rattle.edge_store.proofs.Memory.Walk.{IsChained-had, head_is, place_of-is, first_of, nodes_seen, pointer_in, pointer_out, place_good, place_made, place_val, place_of, Ptr-Good, leaves, proved, ftrue, flft, emp, fact, fact_i, tables, RefOf, yes, layouts, param, RattleType, owns, shr_Tells, shr_vals, plain, types_at, nothing, Goes-dropped, Stays, stay_dropped, walk_of, length, [], ◌∷◌, ◌≢◌, ap, refl, sym, ◌∙◌, ◌≡◌, inst_fn, a_type, named, vptr, arith, ◌+◌, alloc_all, free_all, get, look_at, pass_all, sets, through, !, by, fjoin, fsplit, join, keep, move, qed, raw, split, use0, ‵, ◌$◌, ◌∵◌, ◌⊛◌, agg, and_then, enter, fld, load, look, no_more, of_opd, returns, stop}
use Rattle.edge_store.specs.contracts.nodes.Nodes as Nodes
use Rattle.edge_store.specs.contracts.nodes.Nodes.head as f
use Rattle.edge_store.specs.contracts.nodes.Nodes.head.Key.{name as #self}
use Rattle.edge_store.proofs.nodes.Nodes.head.Statement.{statement}
use Rattle.edge_store.proofs.nodes.Nodes.head.Code as code

pub head_spec : {M : Type 1} → statement M
head_spec 𝓤 𝓛 𝓜 𝓡 wired X L =
    let R : RattleType = param 0 X in
    let Row : RattleType = Nodes.the_row R in
    let En = f.ended X in
    let c = f.clauses X 𝓛 𝓜.mem 𝓡.returns in
    let inst = layouts (a_type ∷ []) (X, tt) in
    let fn = inst_fn inst code.function in
    let 𝓣 = tables 𝓤 𝓛.H 𝓜 𝓡 𝓡.env in
    let self = RefOf (0 ∷ []) tt (plain (λ _. Row)) (λ _. tt) in
    let hs : Stays En.signature.params En.kept = (stay_dropped self yes, tt) in
    proved 𝓛 En hs c 𝓜 𝓡 (Goes-dropped 𝓛 2 self yes (λ κs x w. refl), tt) (#self inst) fn (code.unfolded 𝓤 𝓛.H 𝓜 𝓡 wired (X, tt))
    (λ κs. (shr_vals, tt)) (λ κs. (shr_Tells (named 0) κs.0 Row, tt)) (λ κs qs bounds a g are.
    let b = a.0.ref_ptr.0 in
    let o = a.0.ref_ptr.1 in
    let d : Row.Denot = a.0.now in
    let y : (walk_of 𝓛 En hs c).Ghost = ((κs, qs, bounds, a, (vptr b o ∷ [], tt)), g) in
    let Post = (walk_of 𝓛 En hs c).post y in
    let linked = IsChained-had d.head d.tail d.links d.chained in
    let leads : d.items ≢ [] → d.head ≡ place_of d.links 0 = λ some. let had = first_of d.links d.items d.paired some in let ls = ap length had.links-are in head_is d.head d.links (omega arith) linked.0 ∙ sym (place_of-is d.links 0) in
    qed 𝓛 (((‵ (flft κs.0 qs.0) ⊛ ‵ (flft κs.1.0 qs.1.0) ⊛ ‵ ftrue) ⊛ ‵ (owns (types_at En.signature.params κs) a y.0.4)) ∷ raw ((c κs a).requires g) ∷ []) ∵
    split ! $ split ! $ move ! (2 ∷ []) $ fsplit ! $ fsplit ! $ keep ! (1 ∷ 3 ∷ 4 ∷ []) $
    enter ! 𝓣.C 𝓣.Λ fn (vptr b o ∷ []) Post $ alloc_all ! (λ m. pass_all ! refl ((tt, tt), tt) $ nodes_seen ! R d b o $
    -- [the head; the nodes; the token of self; the token of T]
    move ! (0 ∷ 2 ∷ []) $ pointer_in ! tt d.head b (o + 0) (λ q. sets ! (of_opd ! (load ! (through ! refl (fld ! refl (stop !))) (look ! 0 refl))) refl (Ptr-Good d.head) $
    sets ! (agg ! (and_then ! (get ! refl) (no_more !))) refl (place_good d.head) $ pointer_out ! tt d.head b (o + 0) $ returns ! (look_at ! 0 refl) $ free_all ! refl $
    -- [the token of self; the nodes; the token of T]
    move ! (0 ∷ 2 ∷ []) $ join ! $ place_made R ! (record { ptr = d.head }) $ nothing ! $ nothing ! $ fjoin ! $ use0 𝓛 (raw (fact 𝓤 (d.items ≢ [] → d.head ≡ place_of d.links 0))) (fact_i 𝓤 _ (emp 𝓤) leads) $
    keep ! (3 ∷ 1 ∷ 2 ∷ 0 ∷ []) $ by ! (leaves 𝓛 En hs c y (place_val d.head) (record { ptr = d.head }) (tt, tt) (tt, tt)))))

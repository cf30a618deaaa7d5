-- What the nodes own is taken apart and made, at any type of items. Assumes `Logic`.
--     nodes_had, nodes_made       the head and the tail, by value
--     nodes_opens, nodes_closes   the same behind a `&mut`
--     apart, together             two rows of nodes
--     node_opens, node_closes     a node is [its cell; what the item owns; the right to free the block]
use mathlib.Core.Path.{◌≡◌, refl, ap, subst, ◌∙◌}
use Prim.Native.Nat.{ℕ}
use native.Mathlib.Omega.{arith}
use mathlib.Core.List.{List, [], ◌∷◌, ◌++◌}
use lib.Dec.{T}
use lib.ListN.{length}
use seplogic.Ra.Ura.{Ura}
use base.Fraction.{full_share}
use base.Stored.{Gv}
use base.Logic.{ent, sep, fst∗, never}
use base.Fml.{Fml, Lft, GName, Share, fat, flft, fobs, fauth, fbor, fobor}
use mir.Syntax.{ty_ptr, impl, tcons, tnil, dnil}
use mir.Raw.{raw as bare}
use mir.Val.{Val, vstruct, vcons, vnil, of_list, has_tys, WT}
use types.Logic.{Logic, sem}
use types.Kit.{Item, Goal, Seq, Step, Soaks, step, ‵, some, ◌⊛◌, ◌$◌, ◌∵◌, !, qed, move, drop, use1, use2, pick, split, fsplit, fjoin, fpick, fpack, feq_i, feq_l, rewrite, done}
use types.SemTy.{Body as Borrowed}
use denote.RattleType.{RattleType, Valss}
use denote.Memory.{cell_at, part_at, mem}
use denote.Param.{param, layout}
use denote.Param.Laws.{Laws}
use denote.RawPtr.{Ptr, RawPtr, block_ptr, null_ptr, ptr_val, in_a_block}
use denote.Steps.{nothing, only, opens, closes}
use denote.Struct.Struct.{as_fields, within}
use denote.Struct.Owning.{shape}
use denote.Struct.Declared.{shape as plain_shape}
use borrow.Table.OneValue.{part_in, part_out}
use Rattle.std.proofs.RcSteps.{Ptr-Good}
use Rattle.std.proofs.alloc.Calls.{Al, Fits, handle_tells}
use Rattle.edge_store.specs.contracts.node.Node as Node
use Rattle.edge_store.specs.contracts.node.Place as Place
use Rattle.edge_store.specs.contracts.nodes.Nodes as Nodes
use Rattle.edge_store.specs.declared.node.Place.{Place as PlaceOf}
use Rattle.edge_store.specs.declared.nodes.Nodes.{Nodes as NodesOf}
use Rattle.edge_store.specs.inside.Links.{Link}
use Rattle.edge_store.specs.inside.Ownership.{may_free, node_at, node_owns, nodes_own}

abbrev pub place_val : Ptr → Val
place_val p = vstruct (vcons (ptr_val p) vnil)

abbrev pub node_val : Ptr → Val → Val
node_val n v = vstruct (vcons (place_val n) (vcons v vnil))

abbrev pub nodes_val : Ptr → Ptr → Val
nodes_val h t = vstruct (vcons (ptr_val h) (vcons (ptr_val t) vnil))

pub place_good : (p : Ptr) → T (has_tys (tcons ty_ptr tnil) (vcons (ptr_val p) vnil)) × WT (place_val p)
place_good p = as_fields (ty_ptr ∷ []) (ptr_val p ∷ []) (Ptr-Good p, tt)

pub nodes_good : (h t : Ptr) → T (has_tys (tcons ty_ptr (tcons ty_ptr tnil)) (vcons (ptr_val h) (vcons (ptr_val t) vnil))) × WT (nodes_val h t)
nodes_good h t = as_fields (ty_ptr ∷ ty_ptr ∷ []) (ptr_val h ∷ ptr_val t ∷ []) (Ptr-Good h, (Ptr-Good t, tt))

-- the right to free the block of a node at p
abbrev pub Frees : RattleType → Ptr → Fml
Frees R = may_free (bare (layout (Node.the_row R)))

module _ {M : Type 1} {𝓤 : Ura M} {𝓛 : Logic 𝓤} {K : Type 0} {Γ : List (Item 𝓤)} {G : Goal 𝓤 𝓛.H} (R : RattleType) where
  place_had : K → (p : PlaceOf R.Denot) (vs : List Val) → (vs ≡ place_val p.ptr ∷ [] → Seq K 𝓛 Γ G) → Seq K 𝓛 (‵ ((Place.the_row R).own_val p vs) ∷ Γ) G
  place_had t p vs k = fpick t (λ vss. fsplit t $ feq_l t (λ ev. fsplit t $ feq_l t (λ e. drop t $ k (subst (λ (ws : List Val). vs ≡ vstruct (of_list (ws ++ [])) ∷ []) e ev))))

  pub place_made : K → (p : PlaceOf R.Denot) → Step K 𝓛 (‵ ((Place.the_row R).own_val p (place_val p.ptr ∷ [])) ∷ Γ) G Γ G
  place_made t p = step (λ s. let v = place_val p.ptr in
      nothing t $ feq_i t (List Val) (ptr_val p.ptr ∷ []) (ptr_val p.ptr ∷ []) refl $ fjoin t $ feq_i t (List Val) (v ∷ []) (v ∷ []) refl $ fjoin t $
      fpack t (Valss (RawPtr ∷ [])) (within (plain_shape (Place.the_type R)) (p.ptr, tt) (v ∷ [])) (ptr_val p.ptr ∷ [], tt) $ s)

module _ {M : Type 1} {𝓤 : Ura M} {𝓛 : Logic 𝓤} {K : Type 0} {Γ : List (Item 𝓤)} {G : Goal 𝓤 𝓛.H} (R : RattleType) where
  pub nodes_had : K → (d : NodesOf R.Denot) (vs : List Val) → (vs ≡ nodes_val d.head d.tail ∷ [] → Seq K 𝓛 (‵ (nodes_own R d.links d.items) ∷ Γ) G)
      → Seq K 𝓛 (‵ ((Nodes.the_row R).own_val d vs) ∷ Γ) G
  nodes_had t d vs k =
      fsplit t $ fpick t (λ vss. fsplit t $ feq_l t (λ ev. fsplit t $ feq_l t (λ e. fsplit t $ feq_l t (λ f. drop t $
      k (ev ∙ (λ i. vstruct (of_list (e i ++ (f i ++ []))) ∷ []))))))

  pub nodes_made : K → (d : NodesOf R.Denot) → Step K 𝓛 (‵ ((Nodes.the_row R).own_val d (nodes_val d.head d.tail ∷ [])) ∷ Γ) G (‵ (nodes_own R d.links d.items) ∷ Γ) G
  nodes_made t d = step (λ s. let v = nodes_val d.head d.tail in
      nothing t $ feq_i t (List Val) (ptr_val d.tail ∷ []) (ptr_val d.tail ∷ []) refl $ fjoin t $ feq_i t (List Val) (ptr_val d.head ∷ []) (ptr_val d.head ∷ []) refl $ fjoin t $
      feq_i t (List Val) (v ∷ []) (v ∷ []) refl $ fjoin t $
      fpack t (Valss (RawPtr ∷ RawPtr ∷ [])) (within (shape (Nodes.the_type R)) (d.head, (d.tail, tt)) (v ∷ [])) (ptr_val d.head ∷ [], (ptr_val d.tail ∷ [], tt)) $ fjoin t $ s)

module _ {M : Type 1} {𝓤 : Ura M} {𝓛 : Logic 𝓤} {K : Type 0} {Γ : List (Item 𝓤)} {G : Goal 𝓤 𝓛.H} (R : RattleType) where
  -- [the nodes; the two places; the open borrow; obs; auth]
  pub nodes_opens : K → Soaks G → {κ : Lft} {q : Share} {γ : GName} (d : NodesOf R.Denot) (b o : ℕ)
      → Step K 𝓛 (‵ (nodes_own R d.links d.items) ∷ ‵ (cell_at full_share (Nodes.the_row R).mir (nodes_val d.head d.tail ∷ []) b o) ∷ ‵ (fobor κ q (Borrowed (mem (Nodes.the_row R)) b o γ))
      ∷ ‵ (fobs γ ((Nodes.the_row R).coded.code d)) ∷ ‵ (fauth γ ((Nodes.the_row R).coded.code d)) ∷ Γ) G
      (‵ (fobs γ ((Nodes.the_row R).coded.code d)) ∷ ‵ (fbor κ (Borrowed (mem (Nodes.the_row R)) b o γ)) ∷ ‵ (flft κ q) ∷ Γ) G
  nodes_opens t z d b o = step (λ s.
      opens t z (Nodes.the_row R) {h = d} b o (λ vs. move t (1 ∷ []) $ nodes_had R t d vs (λ is. rewrite t 1 (λ (ws : List Val). ‵ (cell_at full_share (Nodes.the_row R).mir ws b o)) is refl $ s)))

  pub nodes_closes : K → Soaks G → {κ : Lft} {q : Share} {u v : Gv} {γ : GName} (d : NodesOf R.Denot) (b o : ℕ)
      → Step K 𝓛 (‵ (fobs γ ((Nodes.the_row R).coded.code d)) ∷ ‵ (fbor κ (Borrowed (mem (Nodes.the_row R)) b o γ)) ∷ ‵ (flft κ q) ∷ Γ) G
      (‵ (nodes_own R d.links d.items) ∷ ‵ (cell_at full_share (Nodes.the_row R).mir (nodes_val d.head d.tail ∷ []) b o) ∷ ‵ (fobor κ q (Borrowed (mem (Nodes.the_row R)) b o γ))
      ∷ ‵ (fobs γ u) ∷ ‵ (fauth γ v) ∷ Γ) G
  nodes_closes t z d b o = step (λ s. nodes_made R t d $ move t (1 ∷ 0 ∷ []) $ closes t z (Nodes.the_row R) d (nodes_val d.head d.tail ∷ []) b o $ s)

module _ (R : RattleType) {M : Type 1} {𝓤 : Ura M} (𝓛 : Logic 𝓤) where
  pub apart : (ls ms : List Link) (xs ys : List R.Denot) → length ls ≡ length xs → ent 𝓤 (sem 𝓛 (nodes_own R (ls ++ ms) (xs ++ ys))) (sep 𝓤 (sem 𝓛 (nodes_own R ls xs)) (sem 𝓛 (nodes_own R ms ys)))
  apart [] ms [] ys e = qed 𝓛 (‵ (nodes_own R ms ys) ∷ []) ∵ nothing ! $ done !
  apart [] ms (x ∷ xs) ys e = absurd (omega arith)
  apart (l ∷ ls) ms [] ys e = absurd (omega arith)
  apart (l ∷ ls) ms (x ∷ xs) ys e = qed 𝓛 (‵ (nodes_own R (l ∷ ls ++ ms) (x ∷ xs ++ ys)) ∷ []) ∵ fsplit ! $ move ! (1 ∷ []) $
      use1 𝓛 (‵ (nodes_own R ls xs) ⊛ ‵ (nodes_own R ms ys)) (apart ls ms xs ys (omega arith)) $ split ! $ move ! (2 ∷ 0 ∷ []) $ fjoin ! $ done !

  pub together : (ls ms : List Link) (xs ys : List R.Denot) → length ls ≡ length xs → ent 𝓤 (sep 𝓤 (sem 𝓛 (nodes_own R ls xs)) (sem 𝓛 (nodes_own R ms ys))) (sem 𝓛 (nodes_own R (ls ++ ms) (xs ++ ys)))
  together [] ms [] ys e = qed 𝓛 (‵ (nodes_own R [] []) ∷ ‵ (nodes_own R ms ys) ∷ []) ∵ drop ! $ done !
  together [] ms (x ∷ xs) ys e = absurd (omega arith)
  together (l ∷ ls) ms [] ys e = absurd (omega arith)
  together (l ∷ ls) ms (x ∷ xs) ys e = qed 𝓛 (‵ (nodes_own R (l ∷ ls) (x ∷ xs)) ∷ ‵ (nodes_own R ms ys) ∷ []) ∵ fsplit ! $ move ! (1 ∷ 2 ∷ []) $
      use2 𝓛 (‵ (nodes_own R (ls ++ ms) (xs ++ ys))) (together ls ms xs ys (omega arith)) $ move ! (1 ∷ 0 ∷ []) $ fjoin ! $ done !

abbrev R : RattleType → RattleType
R = param 0

module _ (X : RattleType) (L : Laws X) where
  -- an item, in the place of an allocator's handle
  abbrev pub item : Al
  item = record { row = X; laws = L; g = record { dealloc_token = λ a σ p. base.Fml.ftrue }; d = impl [] tnil dnil; drops = impl [] tnil dnil }

module _ (X : RattleType) (L : Laws X) {M : Type 1} {𝓤 : Ura M} {𝓛 : Logic 𝓤} {K : Type 0} {Γ : List (Item 𝓤)} {G : Goal 𝓤 𝓛.H} where
  pub node_opens : K → (l : Link) (x : X.Denot)
      → ((b o : ℕ) (v : Val) → l.0 ≡ block_ptr b o → Fits (item X L) v
      → Seq K 𝓛 (‵ (fat full_share (layout (Node.the_row (R X))) b o (node_val l.1 v)) ∷ ‵ (X.own_val x (v ∷ [])) ∷ ‵ (Frees (R X) (block_ptr b o)) ∷ Γ) G)
      → Seq K 𝓛 (‵ (node_owns (R X) l x) ∷ Γ) G
  node_opens t l x k =
      in_a_block t l.0 (λ p. node_owns (R X) (p, l.1) x) (fst∗ 𝓤 (never 𝓤) (sem 𝓛 (Frees (R X) null_ptr))) (λ b o at. fsplit t $
      use1 𝓛 (some (λ (u : Val). ‵ (fat full_share (layout (Node.the_row (R X))) b o u) ⊛ ‵ ((Node.the_row (R X)).own_val (node_at l x) (u ∷ [])))) (part_out 𝓛 (Node.the_row (R X)) refl full_share (node_at l x) b o) $ pick t (λ u. split t $
      move t (1 ∷ []) $ fpick t (λ vss. fsplit t $ feq_l t (λ ev. fsplit t $ place_had (R X) t (record { ptr = l.1 }) vss.0 (λ e. fsplit t $ handle_tells (item X L) t x vss.1.0 (λ v f fits. move t (1 ∷ []) $ drop t $
      move t (1 ∷ []) $ rewrite t 0 (λ (w : Val). ‵ (fat full_share (layout (Node.the_row (R X))) b o w)) (ap only (ev ∙ (λ i. vstruct (of_list (e i ++ (f i ++ []))) ∷ []))) refl $ k b o v at fits))))))

  pub node_closes : K → (b o : ℕ) (n : Ptr) (v : Val) (x : X.Denot)
      → Step K 𝓛 (‵ (node_owns (R X) (block_ptr b o, n) x) ∷ Γ) G (‵ (fat full_share (layout (Node.the_row (R X))) b o (node_val n v)) ∷ ‵ (X.own_val x (v ∷ [])) ∷ ‵ (Frees (R X) (block_ptr b o)) ∷ Γ) G
  node_closes t b o n v x = step (λ s. let w = node_val n v in
      move t (1 ∷ []) $ nothing t $ move t (1 ∷ 0 ∷ []) $ fjoin t $ place_made (R X) t (record { ptr = n }) $ fjoin t $ feq_i t (List Val) (w ∷ []) (w ∷ []) refl $ fjoin t $
      fpack t (Valss (Place.the_row (R X) ∷ R X ∷ [])) (within (plain_shape (Node.the_type (R X))) ((n, tt), (x, tt)) (w ∷ [])) (place_val n ∷ [], (v ∷ [], tt)) $
      move t (1 ∷ 0 ∷ []) $ use2 𝓛 (‵ (part_at (Node.the_row (R X)) full_share (node_at (block_ptr b o, n) x) b o)) (part_in 𝓛 (Node.the_row (R X)) refl full_share (node_at (block_ptr b o, n) x) b o w) $ fjoin t $ s)

-- What a `&` to the nodes shows. Assumes `Logic`.
--     nodes_seen                  [the head; the nodes]
--     pointer_in, pointer_out     a pointer is opened, and shut
--     node_seen                   the i-th node
use mathlib.Core.Path.{refl}
use Prim.Native.Nat.{ℕ, zero, suc, ◌+◌, ◌<◌}
use native.Mathlib.Omega.{arith}
use mathlib.Core.List.{List, [], ◌∷◌}
use lib.ListN.{length, get_or}
use seplogic.Ra.Ura.{Ura}
use mir.Syntax.{ty_ptr}
use mir.Val.{Val}
use base.Logic.{ent, via, fst∗, snd∗}
use base.Fml.{Lft, Share, fat, flft}
use types.Logic.{Logic, sem}
use types.Kit.{Item, Goal, Seq, Step, Soaks, step, ‵, ◌$◌, move, drop, rewrite, fsplit, feq_i, feq_l}
use denote.RattleType.{RattleType}
use denote.Memory.{cell_at, part_at, hidden_shr}
use denote.Copied.{plain_Copied}
use denote.RawPtr.{Ptr, RawPtr, coded_ptr, ptr_own, ptr_val, rawptr_pure}
use denote.Struct.Laws.{RawPtr-laws}
use denote.Struct.Lending.{lent_at}
use denote.Opens.{Shut, unhide, hide}
use denote.Steps.{looks, shuts}
use Rattle.edge_store.specs.contracts.node.Node.{the_row}
use Rattle.edge_store.specs.contracts.nodes.Nodes as Nodes
use Rattle.edge_store.specs.declared.nodes.Nodes.{Nodes as NodesOf}
use Rattle.edge_store.specs.inside.Links.{Link}
use Rattle.edge_store.specs.inside.Ownership.{node_at, nodes_lent}
use Rattle.edge_store.proofs.Memory.Chained.{link_at}

module _ {M : Type 1} {𝓤 : Ura M} {𝓛 : Logic 𝓤} {K : Type 0} {Γ : List (Item 𝓤)} {G : Goal 𝓤 𝓛.H} where
  pub nodes_seen : K → (R : RattleType) {κ : Lft} (d : NodesOf R.Denot) (b o : ℕ)
      → Step K 𝓛 (‵ (hidden_shr RawPtr κ d.head b (o + 0)) ∷ ‵ (nodes_lent R d.links d.items κ) ∷ Γ) G (‵ (hidden_shr (Nodes.the_row R) κ d b o) ∷ Γ) G
  nodes_seen t R d b o = step (λ s. unhide t $ fsplit t $ fsplit t $ fsplit t $ hide t $ move t (1 ∷ 2 ∷ []) $ drop t $ drop t $ s)

  pub pointer_in : K → Soaks G → {κ : Lft} {q : Share} (p : Ptr) (b at : ℕ)
      → ((part : Share) → Seq K 𝓛 (‵ (fat part ty_ptr b at (ptr_val p)) ∷ Shut 𝓛 κ q (part_at RawPtr part p b at) ∷ Γ) G) → Seq K 𝓛 (‵ (hidden_shr RawPtr κ p b at) ∷ ‵ (flft κ q) ∷ Γ) G
  pointer_in t z p b at k =
      looks t z RawPtr (plain_Copied 𝓛 Ptr coded_ptr (ty_ptr ∷ []) ptr_own rawptr_pure ptr_val RawPtr-laws.tells).opens p b at (λ part vs. move t (1 ∷ []) $ feq_l t (λ e.
      rewrite t 0 (λ (us : List Val). ‵ (cell_at part RawPtr.mir us b at)) e refl $ move t (2 ∷ []) $ drop t $ k part))

  pub pointer_out : K → Soaks G → {κ : Lft} {q part : Share} (p : Ptr) (b at : ℕ)
      → Step K 𝓛 (‵ (flft κ q) ∷ Γ) G (‵ (fat part ty_ptr b at (ptr_val p)) ∷ Shut 𝓛 κ q (part_at RawPtr part p b at) ∷ Γ) G
  pointer_out t z {part = part} p b at = step (λ s.
      feq_i t (List Val) (ptr_val p ∷ []) (ptr_val p ∷ []) refl $ move t (1 ∷ 0 ∷ []) $ shuts t z RawPtr part p (ptr_val p ∷ []) b at $ s)

pub node_seen : {M : Type 1} {𝓤 : Ura M} (𝓛 : Logic 𝓤) (κ : Lft) (R : RattleType) (ls : List Link) (xs : List R.Denot) (i : ℕ) (x : R.Denot) → i < length ls → i < length xs
    → ent 𝓤 (sem 𝓛 (nodes_lent R ls xs κ)) (sem 𝓛 (lent_at (the_row R) (link_at ls i).0 (node_at (link_at ls i) (get_or xs i x)) κ))
node_seen 𝓛 κ R [] xs i y p q = absurd (omega arith)
node_seen 𝓛 κ R (l ∷ ls) [] i y p q = absurd (omega arith)
node_seen {𝓤 = 𝓤} 𝓛 κ R (l ∷ ls) (x ∷ xs) zero y p q = fst∗ 𝓤 _ (sem 𝓛 (nodes_lent R ls xs κ))
node_seen {𝓤 = 𝓤} 𝓛 κ R (l ∷ ls) (x ∷ xs) (suc i) y p q = via 𝓤 _ (snd∗ 𝓤 (sem 𝓛 (lent_at (the_row R) l.0 (node_at l x) κ)) _) (node_seen 𝓛 κ R ls xs i y (omega arith) (omega arith))

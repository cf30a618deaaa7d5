-- A `&` to the nodes is made where one to an item is, and has the laws of what a `&` holds. Assumes `Logic`.
use mathlib.Core.List.{List, [], ◌∷◌, ◌++◌}
use seplogic.Ra.Ura.{Ura}
use mir.Raw.{raw}
use base.Fml.{Lft, ftrue, ffalse, Incl}
use base.Fraction.{full_share}
use base.Meet.{within_both}
use contract.BorrowLft.{⊑_static}
use types.Logic.{Logic}
use denote.Memory.{lone}
use denote.RattleType.{RattleType}
use denote.Param.Laws.{Laws}
use denote.RawPtr.{lies_at}
use denote.Sharing.{ShrLaws}
use denote.SharingLaws.{beside_shr_laws, nothing_shr_laws}
use denote.Shares.{Shares-less}
use denote.Struct.Lending.{lent_at, lent_at_shr_laws, Lends, Lends-lies, Lends-first, Lends-both, Lends-nothing}
use Rattle.edge_store.specs.contracts.node.Node.{the_row}
use Rattle.edge_store.specs.inside.Links.{Link}
use Rattle.edge_store.specs.inside.Ownership.{may_free, node_at, node_owns, nodes_own, nodes_lent}
use Rattle.edge_store.proofs.node.Node.TheLaws as node

-- what outlives the items outlives a node
node_lives : (R : RattleType) (k : Lft) → Incl k R.lives → Incl k (the_row R).lives
node_lives R k r =
    let once = within_both k R.lives [] r (⊑_static k) in
    within_both k (R.lives ++ []) _ once (within_both k ((R.lives ++ []) ++ []) (R.lives ++ []) (within_both k (R.lives ++ []) [] once (⊑_static k)) once)

module _ (R : RattleType) (L : Laws R) where
  pub nodes_lent_laws : (ls : List Link) (xs : List R.Denot) → ShrLaws (nodes_lent R ls xs)
  nodes_lent_laws [] xs = nothing_shr_laws
  nodes_lent_laws (l ∷ ls) [] = nothing_shr_laws
  nodes_lent_laws (l ∷ ls) (x ∷ xs) = beside_shr_laws _ _ (lent_at_shr_laws (the_row R) (node.the_row_laws R L).shr_laws l.0 (node_at l x)) (nodes_lent_laws ls xs)

  module _ {M : Type 1} {𝓤 : Ura M} (𝓛 : Logic 𝓤) (k : Lft) (inc : Incl k R.lives) where
    pub Lends-nodes : (ls : List Link) (xs : List R.Denot) → Lends 𝓛 (nodes_own R ls xs) (nodes_lent R ls xs) k
    Lends-nodes [] [] = Lends-nothing 𝓛 ftrue k
    Lends-nodes [] (x ∷ xs) = Lends-nothing 𝓛 ffalse k
    Lends-nodes (l ∷ ls) [] = Lends-nothing 𝓛 ffalse k
    Lends-nodes (l ∷ ls) (x ∷ xs) =
        let n = node_at l x in
        Lends-both 𝓛 (node_owns R l x) (nodes_own R ls xs) (lent_at (the_row R) l.0 n) (nodes_lent R ls xs) k
        (Lends-first 𝓛 (lies_at (the_row R) full_share l.0 n) (may_free (raw (lone (the_row R).mir)) l.0) (lent_at (the_row R) l.0 n) k
        (Lends-lies 𝓛 (the_row R) k l.0 n (Shares-less 𝓛 (the_row R) (the_row R).lives k (node_lives R k inc) ((node.the_row_laws R L).shares 𝓛) n)))
        (Lends-nodes ls xs)

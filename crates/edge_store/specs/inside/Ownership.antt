-- What the nodes of a list own and lend, at items of the row R.
use Rattle.std.specs.Prelude.{List, [], ◌∷◌}
use mir.Syntax.{Ty}
use base.Fml.{Lft, Fml, ftrue, ffalse, fsep}
use denote.RattleType.{RattleType}
use denote.RawPtr.{Ptr}
use denote.Sharing.{nothing, beside}
use denote.Struct.Lending.{lent_at}
use Rattle.std.specs.Box.Ownership.{box_owns}
use Rattle.std.specs.contracts.impls.GlobalAllocator.TheImpl.{ghosts}
use Rattle.edge_store.specs.contracts.node.Node.{the_row}
use Rattle.edge_store.specs.declared.node.Node.{Node}
use Rattle.edge_store.specs.inside.Links.{Link}

-- the node whose `next` leads where l says
abbrev pub node_at : {X : Type 0} → Link → X → Node X
node_at l x = record { next = record { ptr = l.1 }; item = x }

-- the right to free a block of the heap. Each `Global` frees all.
abbrev pub may_free : Ty → Ptr → Fml
may_free = ghosts.dealloc_token (record { memory = record { seal = tt } })

module _ (R : RattleType) where
  -- a node, and the right to free its block
  abbrev pub node_owns : Link → R.Denot → Fml
  node_owns l x = box_owns may_free (the_row R) l.0 (node_at l x)

  -- the nodes, one for each link and item
  abbrev pub nodes_own : List Link → List R.Denot → Fml
  nodes_own [] [] = ftrue
  nodes_own [] (x ∷ xs) = ffalse
  nodes_own (l ∷ ls) [] = ffalse
  nodes_own (l ∷ ls) (x ∷ xs) = fsep (node_owns l x) (nodes_own ls xs)

  -- what a `&` holds of them
  abbrev pub nodes_lent : List Link → List R.Denot → Lft → Fml
  nodes_lent [] xs = nothing
  nodes_lent (l ∷ ls) [] = nothing
  nodes_lent (l ∷ ls) (x ∷ xs) = beside (lent_at (the_row R) l.0 (node_at l x)) (nodes_lent ls xs)

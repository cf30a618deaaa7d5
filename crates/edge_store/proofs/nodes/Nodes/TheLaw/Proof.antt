-- A `&` to the nodes is made where one to an item is. Assumes `Logic`.
use mathlib.Core.List.{[], ◌++◌}
use base.Fml.{Incl-trans}
use contract.BorrowLft.{meet_⊑_left}
use denote.RattleType.{RattleType}
use denote.Param.Laws.{Laws}
use denote.Param.Shared.{copy_shared}
use denote.Struct.Field.{RawPtr-field}
use denote.Struct.Laws.{RawPtr-copy}
use denote.Struct.Lending.{of_Lends}
use Rattle.edge_store.specs.contracts.nodes.Nodes as C
use Rattle.edge_store.proofs.nodes.Nodes.TheLaw.Statement.{statement}
use Rattle.edge_store.proofs.Memory.Shared.{nodes_lent_laws, Lends-nodes}

pub shares : (R : RattleType) (L : Laws R) → statement R L
shares R L = of_Lends (C.struct R) (C.the_codes R.Denot R.coded) (C.the_heap R) (C.the_lent R)
    (λ d p. nodes_lent_laws R L d.links d.items) (copy_shared RawPtr-field RawPtr-copy, (copy_shared RawPtr-field RawPtr-copy, tt))
    (λ M 𝓤 𝓛 d p. Lends-nodes R L 𝓛 (C.the_row R).lives (Incl-trans (meet_⊑_left (R.lives ++ []) _) (meet_⊑_left R.lives [])) d.links d.items)

pub mod Graph
pub mod LeastWalk
pub mod NodeSet
pub mod PairGraph
pub mod UnlikeWalk
pub mod inside

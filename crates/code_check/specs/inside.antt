-- What private functions of this crate alone cite.
pub mod ByBlock
pub mod CoverMoves
pub mod Landings
pub mod Meets
pub mod PairGraph
pub mod ReadGraph
pub mod Reads

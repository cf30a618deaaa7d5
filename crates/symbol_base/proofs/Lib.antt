pub mod AscendingNumbers
pub mod BitsLemmas
pub mod BlockLemmas
pub mod DecimalLemmas
pub mod Walks
pub mod WordOrder
mod Examples

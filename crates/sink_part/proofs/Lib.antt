pub mod Passing
pub mod Spreads
pub mod LinkRows
pub mod LinkWalks
pub mod Sinks
pub mod Choosing
pub mod MarkedParts

pub mod Weighted
pub mod Run
pub mod Round
pub mod Chain
pub mod Window

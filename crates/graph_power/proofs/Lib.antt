pub mod Totals
pub mod Listed
pub mod Ordered
pub mod WholePower
pub mod Steps

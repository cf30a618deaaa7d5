pub mod Divide
pub mod inside

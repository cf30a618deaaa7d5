pub mod Field
pub mod Linear
pub mod Elimination

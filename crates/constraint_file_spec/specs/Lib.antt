pub mod Keys
pub mod Values
pub mod Listed
pub mod Refusals
pub mod ConstraintFile
pub mod Laws

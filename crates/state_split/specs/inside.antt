-- What private functions of this crate alone cite.
pub mod Classes
pub mod Agreeing
pub mod Splits
pub mod Parts
pub mod Rows

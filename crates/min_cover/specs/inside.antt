-- What private functions of this crate alone cite.
pub mod Machine
pub mod Search
pub mod Raw
pub mod States
pub mod Found
pub mod Classes
pub mod Rows
pub mod Pairs
pub mod Finishing
pub mod Order

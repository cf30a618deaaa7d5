-- What private functions of this crate alone cite.
pub mod Links
pub mod Leads
pub mod Parts

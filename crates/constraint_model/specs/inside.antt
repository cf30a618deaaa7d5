-- What private functions of this crate alone cite.
pub mod Front
pub mod StateSet

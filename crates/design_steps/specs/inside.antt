-- What private functions of this crate alone cite.
pub mod Beginning

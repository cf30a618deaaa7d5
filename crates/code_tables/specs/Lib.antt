pub mod ReadCode
pub mod inside

pub use Rattle.gf256.specs.Field
pub mod Word
pub mod Polynomial
pub mod Laws
pub mod Remainder
pub mod Interleave
pub mod inside

pub mod Data
pub mod RunLength
pub mod inside
pub use Rattle.constraint_spec.specs.Word
pub use Rattle.constraint_spec.specs.Walk
pub use Rattle.constraint_spec.specs.Constraint
pub use Rattle.constraint_spec.specs.Ranges

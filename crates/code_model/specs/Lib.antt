pub mod Data
pub use Rattle.code_spec.specs.Code
pub use Rattle.code_spec.specs.Output
pub use Rattle.code_spec.specs.Checked

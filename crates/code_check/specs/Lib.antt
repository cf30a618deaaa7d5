pub mod CheckFault
pub mod inside
pub use Rattle.code_spec.specs.Checked
pub use Rattle.code_spec.specs.Witness

pub use Rattle.code_text_spec.specs.CodeText
pub use Rattle.constraint_file_spec.specs.ConstraintFile
pub mod inside

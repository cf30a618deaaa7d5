pub mod ConstraintFiles
pub mod Words
pub mod SplitLines
pub mod Explain

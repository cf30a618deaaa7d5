pub mod Polynomials
pub mod Remainders
pub mod PowerTables
pub mod FieldLaws
mod Logarithms
mod Doublings
pub mod Lists
mod RowSteps
pub mod NullSpaces
mod UnitColumns
pub mod NullVectors
mod Solutions

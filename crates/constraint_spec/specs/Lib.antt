pub mod Word
pub mod Walk
pub mod Constraint
pub mod Ranges
pub mod RawState
pub mod RawStateOf

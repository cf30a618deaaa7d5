pub mod Limits
pub mod CodeFiles
pub mod CheckedCodes
pub mod Check
pub mod Encode
pub mod TextPlan
pub mod Decode
pub mod TextFile

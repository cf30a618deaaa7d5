pub mod Step
pub mod Decides

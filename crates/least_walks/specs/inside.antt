pub mod Found
pub mod Layers

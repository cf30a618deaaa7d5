pub mod Divided
pub mod Memory

pub mod Products
pub mod Falling

pub mod Errors
pub mod Division
pub mod Register
pub mod PointTables

mod Examples
pub mod Ascending
pub mod KeyNames
pub mod KeysAscend
pub mod Names
pub mod Outcomes
pub mod Ranges
pub mod Refused
pub mod Types
pub mod UnknownKeys

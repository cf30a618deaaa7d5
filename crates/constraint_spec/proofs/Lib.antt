pub mod Factors
pub mod Suffixes
pub mod RawParts
pub mod Ends
pub mod RawStates
pub mod Following
pub mod Deciding
mod Examples
pub mod EdgeOrder
pub mod Walks
pub mod Words

pub mod Counts
pub mod Decoding
pub mod TextDecoding
pub mod TextWriter
pub mod inside

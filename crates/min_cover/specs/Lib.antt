pub mod StateCounts
pub mod CoverFault
pub mod Memory
pub mod MemoryFault
pub mod inside

pub mod Calls
pub mod Entries
pub mod Faults
pub mod InMemory
pub mod Reads
pub mod Shelf
pub mod Sink
pub mod WholeFile

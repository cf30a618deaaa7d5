pub mod Blocks
pub mod Composed
pub mod LineReaders
pub mod LineSteps
pub mod Numbers
pub mod Readers
pub mod Steps
mod Examples

pub mod Reading
pub mod Reader
pub mod Lines
pub mod LineReader

pub mod Checked
pub mod Code
pub mod Decoder
pub mod Output
pub mod PlainReading
pub mod PlainText
pub mod Walks
pub mod Witness

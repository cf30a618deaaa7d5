pub mod Ascending
pub mod Bits
pub mod Block
pub mod Decimal
pub mod Walk
pub mod Word

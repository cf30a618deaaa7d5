pub mod RowLaws
pub mod CheckLaws
mod CodeLaws
pub mod DecodeLaws
mod IncomingLaws
mod TextLaws

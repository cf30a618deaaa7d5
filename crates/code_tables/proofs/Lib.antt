pub mod CodeLaws
pub mod GraphLines
pub mod LineKinds
pub mod LoopSteps
pub mod NoFeeds
pub mod OneWay
pub mod ReadParts
pub mod TableLines
pub mod Whole
pub mod WordLines
mod TextLines

mod ByBlockLaws
mod CoverReading
mod LandingLaws
mod LeastPairs
mod MeetLaws
mod MoveTables
pub mod OneAnswer
mod PairArcs
mod PairLaws
mod ReadLaws
mod WordsOutside

pub mod StepLaws
pub mod ReadLaws
pub mod PieceReads
pub mod EndLaws
mod LineLaws
mod InputLaws
mod PieceLaws
mod PrintLaws
mod Examples

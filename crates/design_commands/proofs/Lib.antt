mod ConstraintLaws
pub mod RowLaws
mod ExplainLaws

pub mod CodeText
pub mod LineRules

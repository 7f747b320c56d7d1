pub mod LineLayout
pub mod MarkLayout
pub mod LineLaws
pub mod MarkLaws

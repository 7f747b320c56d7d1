pub mod Merged
pub mod MergedLaws
pub mod PlannedLaws

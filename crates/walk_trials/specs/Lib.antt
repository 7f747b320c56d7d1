pub mod Trials
pub mod GrowsLaws
pub mod TrialsLaws

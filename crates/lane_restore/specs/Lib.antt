pub mod Jobs
pub mod Images
pub mod Merging
pub mod Steps

pub mod Views
pub mod Matching
pub mod Sessions
pub mod Making
pub mod Ended
pub mod Staging
pub mod Reading
pub mod Voting

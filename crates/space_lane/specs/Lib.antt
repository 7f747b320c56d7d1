pub mod Chunks
pub mod Lanes
pub mod Stops
pub mod Answers
pub mod Shown
pub mod Steps

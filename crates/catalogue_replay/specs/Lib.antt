pub mod Contents
pub mod Live
pub mod Journal
pub mod Replays
pub mod Places
pub mod Answers

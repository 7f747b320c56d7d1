pub mod Collecting
pub mod Steps

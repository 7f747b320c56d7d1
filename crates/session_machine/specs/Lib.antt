pub mod States
pub mod Records
pub mod Answers
pub mod Calls
pub mod Conditions

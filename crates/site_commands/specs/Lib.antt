pub mod Runs
pub mod Commands
pub mod Stops
pub mod PassLaws

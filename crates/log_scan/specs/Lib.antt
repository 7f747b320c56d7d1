pub mod Slots
pub mod Fronts
pub mod Refusals
pub mod Runs
pub mod Filing
pub mod Scans

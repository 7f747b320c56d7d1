pub mod Texts
pub mod Runs
pub mod LineLaws
pub mod Exits

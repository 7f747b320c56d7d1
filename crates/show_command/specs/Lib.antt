pub mod Bringing
pub mod Showing

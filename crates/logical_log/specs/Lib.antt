pub mod Rings
pub mod Formats
pub mod Records

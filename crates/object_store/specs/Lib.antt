pub mod Stores
pub mod Reading
pub mod Holdings
pub mod Returns
pub mod Endings

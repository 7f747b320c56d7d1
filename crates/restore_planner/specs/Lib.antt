pub mod Views
pub mod Live
pub mod Gone
pub mod Files
pub mod Planned
pub mod Wanted
pub mod WantedLaws

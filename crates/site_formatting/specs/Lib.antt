pub mod Steps
pub mod Disks
pub mod Faults
pub mod Lanes
pub mod Prepared
pub mod Worlds

pub mod Faults
pub mod Disks
pub mod Syncing
pub mod Opening
pub mod Standing
pub mod Formatting

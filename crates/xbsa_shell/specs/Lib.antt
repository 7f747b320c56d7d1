pub mod Printing
pub mod Statuses
pub mod Faults
pub mod Serving
pub mod Running
pub mod Opened

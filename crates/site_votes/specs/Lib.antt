pub mod Objects
pub mod Sent
pub mod Stores
pub mod Voted

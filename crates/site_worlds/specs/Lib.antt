pub mod Worlds
pub mod Files
pub mod Objects
pub mod Lanes
pub mod Fitness
pub mod Moves
pub mod Allowed

pub mod Looks
pub mod Sites

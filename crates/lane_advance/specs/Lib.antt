pub mod Places
pub mod Advances

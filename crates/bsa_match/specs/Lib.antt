pub mod Wild
pub mod Match

pub mod Blocks
pub mod BlocksLaws
pub mod RunLaws
pub mod Table
pub mod Layout
pub mod Placing

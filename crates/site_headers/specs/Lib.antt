pub mod Areas
pub mod Heads
pub mod Headers
pub mod Views
pub mod Kinds
pub mod Parts
pub mod SpaceLaws
pub mod HeaderLaws

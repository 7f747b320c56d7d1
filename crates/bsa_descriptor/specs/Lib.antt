pub mod Text
pub mod Kinds
pub mod Descriptor
pub mod Groups

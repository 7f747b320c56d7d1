pub mod Order
pub mod Readers

pub mod Cutting
pub mod Fault
pub mod Tokens
pub mod TxnLine

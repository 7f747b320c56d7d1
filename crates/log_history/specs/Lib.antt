pub mod History
pub mod Live
pub mod Effects
pub mod Transactions

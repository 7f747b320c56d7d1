pub mod Transactions
pub mod SendLaws
pub mod VoteCalls
pub mod Sessions
pub mod SessionLaws
pub mod SendingLaws

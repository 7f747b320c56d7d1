pub mod OrderLemmas
pub mod SendLemmas
pub mod StoreLemmas
pub mod VoteLemmas
pub mod CommitLemmas

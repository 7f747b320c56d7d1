pub mod StateLemmas
pub mod HoldingLemmas
pub mod StagingLemmas
pub mod QueryingLemmas
pub mod SendingLemmas
pub mod VotingLemmas
pub mod FetchingLemmas
mod OpenLemmas

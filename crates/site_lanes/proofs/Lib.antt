pub mod OneLemmas
pub mod OpeningLemmas
pub mod SyncingLemmas
pub mod AdvancingLemmas

pub mod FindingLemmas
pub mod ReadingLemmas
pub mod ReleaseLemmas
pub mod ReturnLemmas
pub mod DeletedLemmas
pub mod EndingLemmas

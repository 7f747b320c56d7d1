pub mod EndingLemmas
pub mod EntryLemmas
pub mod CommitLemmas
pub mod PairLemmas
pub mod DeletionLemmas
pub mod SearchLemmas
pub mod FormatLemmas

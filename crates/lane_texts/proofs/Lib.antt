pub mod PageLemmas
pub mod ListingLemmas
pub mod TextLemmas
pub mod HistoryLemmas

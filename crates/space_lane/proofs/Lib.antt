pub mod HeaderLemmas
pub mod ClosingLemmas
pub mod PageLemmas
pub mod StateLemmas
pub mod LaneLemmas
pub mod ShowLemmas
pub mod AdvanceLemmas

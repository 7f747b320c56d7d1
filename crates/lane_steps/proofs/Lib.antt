pub mod PageLemmas
pub mod ChoiceLemmas
pub mod StandLemmas
pub mod WritingLemmas
pub mod StepLemmas
pub mod RunLemmas
pub mod OnlyLemmas

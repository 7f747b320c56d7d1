pub mod StepLemmas
pub mod LaneLemmas
pub mod DiskLemmas
pub mod WorldLemmas
pub mod ReadyLemmas
pub mod TouchLemmas

pub mod DiskLemmas
pub mod LoopLemmas
pub mod PassLemmas
pub mod StepLemmas
pub mod WayLemmas

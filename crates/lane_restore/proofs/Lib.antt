pub mod ImageLemmas
pub mod PageLemmas
pub mod LoopLemmas
pub mod StepLemmas
pub mod NextLemmas
pub mod LawLemmas

pub mod CuttingLemmas
pub mod ScriptLemmas
pub mod NextLemmas
pub mod TokenLemmas
pub mod LineLemmas
pub mod FitLemmas

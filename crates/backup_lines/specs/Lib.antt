pub mod Lines
pub mod Spans
pub mod Chains
pub mod ChainsLaws
pub mod Views
pub mod Plans

pub mod LaneLemmas
pub mod MadeLemmas
pub mod FaultLemmas
pub mod FrameLemmas
pub mod CheckpointLemmas

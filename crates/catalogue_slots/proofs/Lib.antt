pub mod RunLemmas
pub mod KindLemmas
pub mod AddLemmas
pub mod SlotLemmas
pub mod OnceLemmas

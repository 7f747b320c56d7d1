pub mod SlotLemmas
pub mod ChangesLemmas
pub mod DigestLemmas

pub mod BootLemmas
pub mod CheckLemmas

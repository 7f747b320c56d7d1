pub mod NumberLemmas
pub mod DigitLemmas
pub mod PartLemmas

pub mod TextLemmas
pub mod SpellingLemmas
mod Printing

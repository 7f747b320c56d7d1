pub mod DisksLemmas

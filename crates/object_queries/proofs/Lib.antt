pub mod QueryLemmas

pub mod HeadLemmas
pub mod PageLemmas

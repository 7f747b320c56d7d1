pub mod FormatLemmas
pub mod StandsLemmas
pub mod ReadingLemmas

pub mod WantedLemmas
pub mod TryingLemmas
pub mod SiteLemmas
pub mod DiskLemmas
pub mod BytesLemmas
pub mod EndLemmas
pub mod WorldLemmas

pub mod ReplayLemmas
pub mod FollowLemmas
pub mod SoundLemmas
pub mod SameLemmas
pub mod HeadLemmas
pub mod ReadingLemmas
pub mod LiveLemmas

pub mod Image
pub mod Reading
pub mod Making
pub mod ReadingLaws
pub mod MakingLaws
pub mod BlockLaws

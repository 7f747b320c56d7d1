pub mod Saved
pub mod ListLaws
pub mod SpelledLaws
pub mod PagesLaws
pub mod RegionLaws
pub mod RestoredLaws

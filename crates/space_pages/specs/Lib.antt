pub mod Layout
pub mod Pages
pub mod Progress
pub mod Slots
pub mod PagesLaws
pub mod ProgressLaws

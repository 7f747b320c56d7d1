pub mod Layout
pub mod Entry
pub mod LayoutLaws

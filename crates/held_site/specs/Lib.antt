pub mod Pages
pub mod PartLaws
pub mod StrayLaws
pub mod HeldLaws

pub mod Reading
pub mod KeptLaws
pub mod TableLaws
pub mod ChangesLaws
pub mod HeldLaws

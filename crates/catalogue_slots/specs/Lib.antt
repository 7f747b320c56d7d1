pub mod Records
pub mod Views
pub mod Layout
pub mod Fronts
pub mod Parts
pub mod RunLaws
pub mod SlotLaws

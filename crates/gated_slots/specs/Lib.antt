pub mod Slots
pub mod SlotsLaws
pub mod Writes
pub mod Header
pub mod HeaderLaws

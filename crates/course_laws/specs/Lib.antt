pub mod Leading
pub mod AppendingLaws
pub mod ShowingLaws
pub mod Passing

pub mod Choices
pub mod Moves
pub mod Runs
pub mod ChoiceLaws
pub mod OwnLaws

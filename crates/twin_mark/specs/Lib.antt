pub mod Marks
pub mod MarksLaws
pub mod Replacing

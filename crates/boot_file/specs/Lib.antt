pub mod Places
pub mod Answers
pub mod Reading
pub mod Numbers
pub mod Boots
pub mod Formats
pub mod PlacesLaws

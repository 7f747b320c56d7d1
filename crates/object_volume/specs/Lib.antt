pub mod Objects
pub mod ObjectsLaws
pub mod Answers
pub mod Cursors
pub mod Taking
pub mod Sending
pub mod Volumes
pub mod Headers

pub mod Answers
pub mod Strays
pub mod Readers
pub mod Logs
pub mod FilesLaws
pub mod ChangesLaws
pub mod CountLaws

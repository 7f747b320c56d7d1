pub mod AnswerLemmas
pub mod ReaderLemmas
pub mod FilesLemmas

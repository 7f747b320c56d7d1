pub mod Restarting
pub mod PreparingLaws
pub mod RestoringLaws
pub mod RestartLaws
pub mod BeginningLaws
pub mod Passing
pub mod RefusalLaws

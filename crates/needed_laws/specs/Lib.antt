pub mod Needed
pub mod BegunLaws
pub mod SufficesLaws
pub mod JoinedLaws

pub mod Scripts
pub mod AppendLaws
pub mod Places
pub mod ScriptLaws
pub mod Passing

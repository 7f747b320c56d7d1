pub mod Faults
pub mod Steps
pub mod LogSteps
pub mod Opens

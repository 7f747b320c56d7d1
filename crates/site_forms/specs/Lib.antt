pub mod Starts
pub mod Reports
pub mod Forms
pub mod PassingLaws

pub mod Table
pub mod LowLaws
pub mod OrderLaws
pub mod TableLaws

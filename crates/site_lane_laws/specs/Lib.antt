pub mod Agreements
pub mod OpeningLaws
pub mod AdvancingLaws
pub mod PhaseLaws
pub mod RefusalLaws

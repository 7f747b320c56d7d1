pub mod LiveLaws
pub mod PositionsLaws
pub mod EffectiveLaws
pub mod PagesLaws

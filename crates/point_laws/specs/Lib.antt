pub mod TimeLaws
pub mod FileLaws
pub mod PointLaws

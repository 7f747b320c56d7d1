pub mod PlacingLaws
pub mod ObjectLaws

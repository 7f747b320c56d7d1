pub mod QuietLaws
pub mod DrawnLaws
pub mod GeneratedLaws

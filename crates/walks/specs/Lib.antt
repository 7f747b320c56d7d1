pub mod Follows
pub mod FollowsLaws
pub mod Moving
pub mod MovingLaws
pub mod Courses
pub mod CoursesLaws
pub mod LeavesLaws

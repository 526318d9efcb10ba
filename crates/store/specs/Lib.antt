pub mod Adding
pub mod Following
pub mod Judging

pub mod Bare
pub mod Runs
pub mod Openings
pub mod Search

pub mod Checking
pub mod InOrder
pub mod Skipping

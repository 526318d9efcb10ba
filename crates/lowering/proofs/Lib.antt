pub mod Judging
pub mod Running
pub mod Listed

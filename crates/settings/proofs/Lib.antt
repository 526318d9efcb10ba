pub mod Commands
pub mod Noticing

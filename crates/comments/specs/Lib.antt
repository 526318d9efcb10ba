pub mod Searches
pub mod Tapes

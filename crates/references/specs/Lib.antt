pub mod References
pub mod Walks
pub mod Examples

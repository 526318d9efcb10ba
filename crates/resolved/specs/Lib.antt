pub mod Resolved
pub mod Examples

pub mod Limits
pub mod Numbers
pub mod Refusals
pub mod Targets
pub mod Examples

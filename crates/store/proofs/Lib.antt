mod Forms
pub mod Growing
pub mod Adding
pub mod Following
pub mod Soundness
pub mod Writing
pub mod Full

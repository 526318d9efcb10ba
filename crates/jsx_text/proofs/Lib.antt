pub mod Unbound
pub mod Writing
pub mod Runs
pub mod Folding
pub mod Characters
pub mod Turns
pub mod Marking

pub mod Numbers
pub mod Grouping
mod Tape
pub mod Writing

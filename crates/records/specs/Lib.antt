pub mod Numbers
pub mod Grouping
pub mod Tape

pub mod Lines
pub mod Values
pub mod Answers
pub mod Examples

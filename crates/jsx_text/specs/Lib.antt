pub mod Marks
pub mod TextBytes
pub mod Examples

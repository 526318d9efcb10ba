pub mod Lengths
pub mod Table
pub mod Rows

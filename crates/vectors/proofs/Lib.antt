pub mod Cutting
pub mod Folding
pub mod Pairs

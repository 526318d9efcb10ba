pub mod Fronts
pub mod Refusals
pub mod Lines

pub mod Outputs
pub mod Overwriting
pub mod Emitting
pub mod Commands
pub mod Measuring

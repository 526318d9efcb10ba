pub mod Operands
pub mod Opening
pub mod Root
pub mod Sizes
pub mod Examples

pub mod Nesting
pub mod Turns
pub mod Lowerings
pub mod Attributing
pub mod Calling
pub mod Parenting
pub mod Heads
pub mod Moves

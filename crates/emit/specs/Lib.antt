pub mod Heads
pub mod Contexts
pub mod Outlines
pub mod Pragmas
pub mod Properties

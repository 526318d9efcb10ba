pub mod Readings
pub mod Members
pub mod Names
pub mod Properties
pub mod RootHeads
pub mod Outlines

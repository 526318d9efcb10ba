pub mod Places
mod Signs
mod Values
pub mod Tapes

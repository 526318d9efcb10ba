pub mod Packed
pub mod Inverse
pub mod UnpackedAnswer

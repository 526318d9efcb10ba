pub mod Inversions
pub mod Texts
pub mod Fronts
pub mod Spreading
pub mod Ends

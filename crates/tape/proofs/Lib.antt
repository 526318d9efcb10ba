pub mod Targets
pub mod ReadBack
pub mod Filling
pub mod Shifts

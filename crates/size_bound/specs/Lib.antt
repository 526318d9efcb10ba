pub mod SizeBound
pub mod Examples

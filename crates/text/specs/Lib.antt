pub mod Bytes
pub mod Utf8
pub mod Chars
pub mod Spans
pub mod Examples

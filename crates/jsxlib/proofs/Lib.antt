pub mod Unread
pub mod Jobs
pub mod Hosting

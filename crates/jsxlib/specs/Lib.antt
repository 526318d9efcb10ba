pub mod Entries
pub mod Unread
pub mod Hosts

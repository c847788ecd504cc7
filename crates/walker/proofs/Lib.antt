-- walker
pub mod Steps
pub mod Unread

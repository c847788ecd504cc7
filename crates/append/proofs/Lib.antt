-- append
pub mod Places
pub mod Answering
pub mod Appending
pub mod Delivering

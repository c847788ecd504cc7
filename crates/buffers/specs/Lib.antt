-- buffers
pub mod Words
pub mod Buffers
pub mod InnerOver
pub mod Lists

-- c_api
pub mod Bounds
pub mod Reading

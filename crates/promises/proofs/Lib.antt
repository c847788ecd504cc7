-- promises
pub mod Promises
pub mod Requests

-- steps
pub mod Siding
pub mod Stepping
pub mod Looping
pub mod Marking
pub mod Turning
pub mod Going
pub mod Feeding

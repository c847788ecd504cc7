-- answers
pub mod Refusals
pub mod Outputs
pub mod Delivered

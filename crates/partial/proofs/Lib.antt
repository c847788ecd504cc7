-- partial
pub mod Holding
pub mod Summing

-- tally
pub mod Parting
pub mod Summing

-- tally
pub mod InnerParts
pub mod InnerSums

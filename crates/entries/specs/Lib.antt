-- entries
pub mod InnerTally

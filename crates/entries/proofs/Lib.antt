-- entries
pub mod Tallying

-- transform
pub mod InnerPairs

-- partial
pub mod InnerSumming

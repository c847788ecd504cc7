-- places
pub mod InnerOps

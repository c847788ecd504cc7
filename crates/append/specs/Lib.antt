-- append
pub mod InnerAccepting

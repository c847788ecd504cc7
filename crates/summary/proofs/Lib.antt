-- summary
pub mod Answering

-- transform
pub mod Answering

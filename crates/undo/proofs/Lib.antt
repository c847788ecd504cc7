-- undo
pub mod Inverting
pub mod Answers

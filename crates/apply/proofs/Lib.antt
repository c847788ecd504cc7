-- apply
pub mod Answers

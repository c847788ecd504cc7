-- json_measure
pub mod Digits
pub mod Texts
pub mod Inserts
pub mod Values
pub mod Answers

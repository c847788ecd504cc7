-- inserts
pub mod Texts

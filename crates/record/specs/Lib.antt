-- record
pub mod Layout
pub mod Record
pub mod Calls
pub mod Kinds
pub mod InnerFront

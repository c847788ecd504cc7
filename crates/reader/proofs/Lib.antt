-- reader
pub mod Fronts

-- packing
pub mod Packing

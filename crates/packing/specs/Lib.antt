-- packing
pub mod Numbers

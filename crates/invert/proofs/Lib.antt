-- invert
pub mod Inverses

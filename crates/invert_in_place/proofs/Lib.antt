-- invert_in_place
pub mod Placing

-- json_texts
pub mod Texts
pub mod Writes
pub mod Positions
pub mod Moves

-- json
pub mod Placing
pub mod Writing

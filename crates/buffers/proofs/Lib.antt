-- buffers
pub mod Over
pub mod Tests
pub mod Moves
pub mod Fronts

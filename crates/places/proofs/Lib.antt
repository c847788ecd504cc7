-- places
pub mod Writing
pub mod Relocating

-- emitter
pub mod Growing
pub mod Loops
pub mod Counting
pub mod Emitting
pub mod Adding
pub mod Delivering
pub mod Staging
pub mod Giving
pub mod Parts

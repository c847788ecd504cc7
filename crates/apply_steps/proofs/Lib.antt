-- apply_steps
pub mod Overs
pub mod Passing
pub mod Playing

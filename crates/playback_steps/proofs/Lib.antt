-- playback_steps
pub mod Rooms
pub mod Stages

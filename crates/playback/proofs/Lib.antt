-- playback
pub mod Answers

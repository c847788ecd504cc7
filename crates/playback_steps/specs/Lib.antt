-- playback_steps
pub mod InnerStages

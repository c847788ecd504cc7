-- invert_steps
pub mod Undoing

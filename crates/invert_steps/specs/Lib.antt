-- invert_steps
pub mod InnerEmitting

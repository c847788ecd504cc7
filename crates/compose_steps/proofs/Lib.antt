-- compose_steps
pub mod Steps

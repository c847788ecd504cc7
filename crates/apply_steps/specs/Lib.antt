-- apply_steps
pub mod InnerSteps
